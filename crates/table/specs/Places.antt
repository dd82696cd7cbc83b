-- What the places of a table hold, and what a search through them holds on its way. Assumes nothing.
--     Clean b             each place holds a resting order, or exactly nothing
--     FreeFrom n b       every place from n on is free
--     NoneOutFrom n b   no slip is out in a place from n on
--     Inside o            a place that was found is one of the 64
--     ahead c lt b k o    place k is taken before the place o that the search holds
--     Vacant b o          o is a place that holds nothing, or none is free
use Rattle.std.specs.Prelude.{◌≡◌, ℕ, ◌<◌, ◌≤◌, Bool, false, ◌&&◌, List, Some, None, Option}
use Rattle.rules.specs.declared.Order.{Order}
use Rattle.rules.specs.declared.Sent.{Sent}
use Rattle.rules.specs.Book.{free, at, live, taken}
use Rattle.rules.specs.Slips.{sent_at, out}

abbrev pub Whole : Order → Type 0
Whole o = live o ≡ false → o ≡ free

abbrev pub Clean : List Order → Type 0
Clean b = (k : ℕ) → Whole (at b k)

abbrev pub FreeFrom : ℕ → List Order → Type 0
FreeFrom n b = (k : ℕ) → n ≤ k → at b k ≡ free

abbrev pub NoneOutFrom : ℕ → List Sent → Type 0
NoneOutFrom n b = (k : ℕ) → n ≤ k → out (sent_at b k) ≡ false

abbrev pub Inside : Option ℕ → Type 0
Inside None = Unit {0}
Inside (Some i) = i < 64

abbrev pub ahead : (Order → Bool) → (Order → Order → Bool) → List Order → ℕ → Option ℕ → Bool
ahead c lt b k None = c (at b k)
ahead c lt b k (Some i) = c (at b k) && lt (at b k) (at b i)

abbrev pub Vacant : List Order → Option ℕ → Type 0
Vacant b None = taken b ≡ 64
Vacant b (Some i) = (i < 64) × (at b i ≡ free) × (taken b < 64)
