-- The slips that are out: a table of places, each free or with a slip. Read only through `sent_at`. Assumes nothing.
--     no_slip, no_sent        what a place without a slip holds
--     sent_at b i, out x, OutThere x     the slip at a place (free outside the table); it is out
--     carries id x, is_slip n x           a slip that is out, of the order with this id; with this number
--     seat c b k              the first of the first k places that c takes
--     vacancies b             how many places are free
--     file id s b             b with the slip s, of the order with this id, in the first free place
--     filed id ss b           b with all of them
use Rattle.std.specs.Prelude.{ℕ, zero, suc, ◌<◌, Bool, cond, not, ◌&&◌, List, [], ◌∷◌, length, Some, None, count_by, Option, ◌==◌, nat_lt, slice_index_or, slice_set}
use Rattle.values.specs.declared.reports.Slip.{Slip}
use Rattle.rules.specs.declared.Sent.{Sent}
use Rattle.rules.specs.Book.{branch}

abbrev pub no_slip : Slip
no_slip = record { number = 0; arrival = 0; exchange = 0; price = 0; size = 0 }

abbrev pub no_sent : Sent
no_sent = record { slip = no_slip; id = 0 }

abbrev pub sent_at : List Sent → ℕ → Sent
sent_at b i = slice_index_or b i no_sent

abbrev pub out : Sent → Bool
out x = nat_lt 0 x.slip.size

abbrev pub OutThere : Sent → Type 0
OutThere x = 0 < x.slip.size

abbrev pub vacant : Sent → Bool
vacant x = not (out x)

abbrev pub carries : ℕ → Sent → Bool
carries id x = out x && x.id == id

abbrev pub is_slip : ℕ → Sent → Bool
is_slip n x = out x && x.slip.number == n

unfoldable pub seat : (Sent → Bool) → List Sent → ℕ → Option ℕ
seat c b zero = None
seat c b (suc k) = branch (seat c b k) (cond (c (sent_at b k)) (Some k) None) (λ i. Some i)

abbrev pub vacancies : List Sent → ℕ
vacancies b = count_by vacant b

unfoldable pub file : ℕ → Slip → List Sent → List Sent
file id s b = branch (seat vacant b (length b)) b (λ i. slice_set b i (record { slip = s; id = id }))

unfoldable pub filed : ℕ → List Slip → List Sent → List Sent
filed id [] b = b
filed id (s ∷ ss) b = filed id ss (file id s b)
