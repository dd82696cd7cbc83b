-- What two lists of reports come to together, and what rests of one order. Assumes nothing.
--     filled-++, cancelled-++, away-++, latest-++, news-++, no_news-++     reports of two lists
--     states_same, states-++      bookings that state what rests
--     part_none, none_of          where nothing rests of an order
--     sum_mono, resting_lower     trading lets no more rest
use Rattle.std.proofs.Common.{◌≡◌, ℕ, suc, ◌+◌, ◌≤◌, ◌≢◌, List, [], ◌∷◌, ◌++◌, length, sum_by, sym, refl, ap, ◌∙◌, subst, ap₂, inl, inr, arith}
use Rattle.std.proofs.lemmas.Bool.Decides.{nat_tests}
use Rattle.std.proofs.lemmas.Bool.{cases_lt, ne_eqb}
use Rattle.std.proofs.lemmas.List.Sums.{sum_by-cons}
use Rattle.values.specs.declared.reports.Report.{Report}
use Rattle.values.specs.declared.reports.Report.TheVariants.{New, Fill, Booked, Cancelled, FilledAway}
use Rattle.rules.specs.declared.Order.{Order}
use Rattle.rules.specs.declared.Prices.{Prices}
use Rattle.rules.specs.Book.{at, Live}
use Rattle.rules.specs.Sizes.{share, part, resting, filled, away, cancelled, showing, latest, news}
use Rattle.rules.specs.Law.{StatesRest}
use Rattle.trading_laws.specs.Books.{Low}
use Rattle.trading_laws.proofs.Trade.{Lower}

-- ---- reports of two lists
pub filled-++ : (a : ℕ) (rs ss : List Report) → filled a (rs ++ ss) ≡ filled a rs + filled a ss
filled-++ a [] ss = omega arith
filled-++ a (r ∷ rs) ss = omega (arith, filled-++ a rs ss)

pub cancelled-++ : (a : ℕ) (rs ss : List Report) → cancelled a (rs ++ ss) ≡ cancelled a rs + cancelled a ss
cancelled-++ a [] ss = omega arith
cancelled-++ a (r ∷ rs) ss = omega (arith, cancelled-++ a rs ss)

pub away-++ : (a : ℕ) (rs ss : List Report) → away a (rs ++ ss) ≡ away a rs + away a ss
away-++ a [] ss = omega arith
away-++ a (r ∷ rs) ss = omega (arith, away-++ a rs ss)

pub latest-++ : (a : ℕ) (p : Prices) (rs ss : List Report) → latest a p (rs ++ ss) ≡ latest a (latest a p rs) ss
latest-++ a p [] ss = refl
latest-++ a p (r ∷ rs) ss = latest-++ a (showing a p r) rs ss

pub news-++ : (rs ss : List Report) → news (rs ++ ss) ≡ news rs ++ news ss
news-++ [] ss = refl
news-++ (New x i ∷ rs) ss = ap (λ l. (x, i) ∷ l) (news-++ rs ss)
news-++ (Fill t m y q ∷ rs) ss = news-++ rs ss
news-++ (Booked x y d n ∷ rs) ss = news-++ rs ss
news-++ (Cancelled x n c ∷ rs) ss = news-++ rs ss
news-++ (FilledAway x k n ∷ rs) ss = news-++ rs ss

pub no_news-++ : (rs ss : List Report) → news rs ≡ [] → news ss ≡ [] → news (rs ++ ss) ≡ []
no_news-++ rs ss h k = news-++ rs ss ∙ ap₂ (λ x y. x ++ y) h k

-- ---- what bookings state
pub states_same : (f g : ℕ → ℕ) (rs : List Report) → ((a : ℕ) → f a ≡ g a) → StatesRest f rs → StatesRest g rs
states_same f g [] e h = tt
states_same f g (New x i ∷ rs) e h = states_same f g rs e h
states_same f g (Fill t m y q ∷ rs) e h = states_same f g rs e h
states_same f g (Booked x y d n ∷ rs) e h = (omega (arith, h.0, e x), states_same f g rs e h.1)
states_same f g (Cancelled x n c ∷ rs) e h = states_same f g rs e h
states_same f g (FilledAway x k n ∷ rs) e h = states_same f g rs e h

-- what the first list leaves, the second takes or leaves
pub states-++ : (f : ℕ → ℕ) (rs ss : List Report) → StatesRest (λ a. f a + (filled a ss + cancelled a ss)) rs → StatesRest f ss → StatesRest f (rs ++ ss)
states-++ f [] ss h k = k
states-++ f (New x i ∷ rs) ss h k = states-++ f rs ss h k
states-++ f (Fill t m y q ∷ rs) ss h k = states-++ f rs ss h k
states-++ f (Booked x y d n ∷ rs) ss h k = (omega (arith, h.0, filled-++ x rs ss, cancelled-++ x rs ss), states-++ f rs ss h.1 k)
states-++ f (Cancelled x n c ∷ rs) ss h k = states-++ f rs ss h k
states-++ f (FilledAway x k n ∷ rs) ss h l = states-++ f rs ss h l

-- ---- what rests of an order
pub part_none : (a : ℕ) (o : Order) → o.remaining ≡ 0 → part a o ≡ 0
part_none a o h = grind (arith, nat_tests)

-- where no order has the number a, nothing of it rests
pub none_of : (a : ℕ) (b : List Order) → ((j : ℕ) → Live (at b j) → (at b j).arrival ≢ a) → resting a b ≡ 0
none_of a [] h = refl
none_of a (x ∷ b) h = omega (arith, sum_by-cons (part a) x b, mine, none_of a b (λ j. h (suc j)))
  where
    mine : part a x ≡ 0
    mine = elim (cases_lt 0 x.remaining) [ inl l ↦ rw (ne_eqb x.arrival a (h 0 l)) refl | inr z ↦ part_none a x (omega (arith, z)) ]

-- sums over two books, place by place
pub sum_mono : (f g : Order → ℕ) (b c : List Order) → length c ≡ length b → ((j : ℕ) → g (at c j) ≤ f (at b j)) → sum_by g c ≤ sum_by f b
sum_mono f g [] [] e h = omega arith
sum_mono f g [] (y ∷ c) e h = absurd (omega arith)
sum_mono f g (x ∷ b) [] e h = omega arith
sum_mono f g (x ∷ b) (y ∷ c) e h = omega (arith, sum_by-cons f x b, sum_by-cons g y c, h 0, sum_mono f g b c (omega arith) (λ j. h (suc j)))

share_mono : (a x m n : ℕ) → m ≤ n → share a x m ≤ share a x n
share_mono a x m n h = grind (arith, nat_tests)

part_low : (a : ℕ) (x y : Order) → Low x y → part a y ≤ part a x
part_low a x y f = elim (cases_lt 0 y.remaining) [
  | inl l ↦ subst (λ z. share a z y.remaining ≤ part a x) (sym (ap (λ o. o.arrival) (f.same l))) (share_mono a x.arrival y.remaining x.remaining (f.less l))
  | inr z ↦ omega (arith, part_none a y (omega (arith, z)))
]

pub resting_lower : (a : ℕ) (b c : List Order) → length c ≡ length b → Lower b c → resting a c ≤ resting a b
resting_lower a b c long f = sum_mono (part a) (part a) b c long (λ j. part_low a (at b j) (at c j) (f j))
