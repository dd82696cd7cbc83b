-- A turn, from what its parts gave. Assumes nothing.
use Rattle.std.proofs.Common.{◌≡◌, ℕ, ◌-◌, Bool, cond, ◌&&◌, ltb, List, [], ◌∷◌, length, set, Some, None, Option, refl, ap, ◌∙◌, subst}
use native.Mathlib.Nat.{sub-zero}
use Rattle.values.specs.declared.reports.Report.{Report}
use Rattle.values.specs.declared.reports.Report.TheVariants.{New, Cancelled}
use Rattle.values.specs.declared.reports.Slip.{Slip}
use Rattle.rules.specs.declared.Order.{Order}
use Rattle.rules.specs.declared.Prices.{Prices}
use Rattle.rules.specs.declared.Terms.{Terms}
use Rattle.rules.specs.Sides.{ok, facing}
use Rattle.rules.specs.Book.{free, at, live, side_of, branch, with_rem}
use Rattle.rules.specs.Trading.{within, trade}
use Rattle.rules.specs.Routing.{total, nowhere}
use Rattle.rules.specs.Resting.{Out, rest_at, settle, turn, cause_of, fresh, enter}
use Rattle.records.specs.declared.list.AppendList.{AppendList}
use Rattle.records.specs.Contents.{Grown}
use Rattle.records.proofs.Growing.{grown_more}
use Rattle.table.specs.declared.sides.Away.{Away}
use Rattle.table.specs.Away.{On}
use Rattle.book.specs.Rests.{rest_on, booked_at, settle_on, turned, Came, Dealt}

module _ (R : ℕ → Bool) (a : Away) (on : On R a) where
  rest_is : (t : Order) → rest_on a t ≡ rest_at a.best R t
  unfolding rest_at
  rest_is t =
      let s = side_of t in
      let w = facing a.best s in
      let limit = t.terms.limit in
      let other : Option Prices = cond (ltb 0 limit && ok s t.terms.protection limit) (Some (record { booked = limit; displayed = limit })) None in
      ap (λ d. cond (ltb 0 w && within t.terms w) (Some (record { booked = w; displayed = d })) other) (on s)

  pub settle_is : (i : ℕ) (old t : Order) (b : List Order) → settle_on a i old t b ≡ settle a.best R i old t b
  unfolding settle
  settle_is i old t b =
      let lost : Out = record { book = b; out = Cancelled t.arrival t.remaining (cause_of t.terms) ∷ [] } in
      let none : Out = record { book = b; out = [] } in
      ap (λ r. cond (live t) (branch r lost (booked_at i old t b)) none) (rest_is t)

  -- `left` is what is left of the taker after trading and routing
  pub turn_comes : (send : Order → List Slip) (i : ℕ) (old t left : Order) (b b₁ b₂ : List Order) (l l₁ l₂ : AppendList Report) → let d = trade (length b) a.best t b in left ≡ with_rem d.taker (d.taker.remaining - total (send d.taker)) → b₁ ≡ d.book → Grown l d.out l₁ → Came (settle_on a i old left b₁) b₂ l₁ l₂ → Came (turned (turn a.best R send i old t b)) b₂ l l₂
  unfolding turn
  turn_comes send i old t left b b₁ b₂ l l₁ l₂ e f g c =
      let d = trade (length b) a.best t b in
      let same : settle_on a i old left b₁ ≡ settle a.best R i old (with_rem d.taker (d.taker.remaining - total (send d.taker))) d.book = rw (e, f) (settle_is i old _ d.book) in
      record {
        book = c.book ∙ ap (λ r. r.book) same;
        reported = grown_more l l₁ l₂ d.out _ g (rw same at c.reported);
      }

pub kept : (t : Order) → t ≡ with_rem t (t.remaining - total (nowhere t))
kept t = rw sub-zero refl

-- the turn of the order at i, which leaves its place
pub turn_again : (R : ℕ → Bool) (a : Away) (on : On R a) (i : ℕ) (old t left : Order) (b b' b₁ b₂ : List Order) (l l₁ l₂ : AppendList Report) → t ≡ at b i → b' ≡ set b i free → left ≡ (trade (length b') a.best t b').taker → b₁ ≡ (trade (length b') a.best t b').book → Grown l (trade (length b') a.best t b').out l₁ → Came (settle_on a i old left b₁) b₂ l₁ l₂ → Came (turned (turn a.best R nowhere i old (at b i) (set b i free))) b₂ l l₂
turn_again R a on i old t left b b' b₁ b₂ l l₁ l₂ f g e h k c =
    rw (← f, ← g) (turn_comes R a on nowhere i old t left b' b₁ b₂ l l₁ l₂ (e ∙ kept (trade (length b') a.best t b').taker) h k c)

-- the entry of a passed order with the terms u, of which `fore` is the order as entered
pub entry_comes : (R : ℕ → Bool) (a : Away) (on : On R a) (send : Order → List Slip) (i k : ℕ) (u v : Terms) (fore old left : Order) (rest : Order) (b b₁ b₂ : List Order) (l l₀ l₁ l₂ : AppendList Report) (m m' : AppendList Slip) → v ≡ u → fore ≡ fresh k v → old ≡ free → Grown l (New k v.id ∷ []) l₀ → left ≡ (trade (length b) a.best fore b).taker → b₁ ≡ (trade (length b) a.best fore b).book → Grown l₀ (trade (length b) a.best fore b).out l₁ → Grown m (send left) m' → rest ≡ with_rem left (left.remaining - total (send left)) → Came (settle_on a i old rest b₁) b₂ l₁ l₂ → Dealt (enter a.best R send i k u b) b₂ l l₂ m m'
unfolding enter turn
entry_comes R a on send i k u v fore old left rest b b₁ b₂ l l₀ l₁ l₂ m m' terms is none new e h g sent r c =
    let same : fore ≡ fresh k u = is ∙ ap (fresh k) terms in
    let came = turn_comes R a on send i old fore rest b b₁ b₂ l₀ l₁ l₂ (r ∙ ap (λ x. with_rem x (x.remaining - total (send x))) e) h g c in
    let fine : Came (turned (turn a.best R send i free (fresh k u) b)) b₂ l₀ l₂ = subst (λ o. Came (turned (turn a.best R send i o (fresh k u) b)) b₂ l₀ l₂) none (subst (λ t. Came (turned (turn a.best R send i old t b)) b₂ l₀ l₂) same came) in
    record {
      book = fine.book;
      reported = grown_more l l₀ l₂ (New k u.id ∷ []) _ (rw terms at new) fine.reported;
      sent = subst (λ t. Grown m (send (trade (length b) a.best t b).taker) m') same (subst (λ x. Grown m (send x) m') e sent);
    }
