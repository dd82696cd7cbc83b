-- An order's entry: its turn, in a book of earlier orders. Assumes nothing.
--     enter_entered       the book after it is in order, and what it reports and sends accounts for all of it
use Rattle.std.proofs.Common.{◌≡◌, ℕ, suc, ◌<◌, Bool, ◌≢◌, ◌⊎◌, List, ◌∷◌, length, sym, ap, ◌∙◌, subst, inl, inr, arith}
use Rattle.std.proofs.lemmas.Bool.{cases_eq}
use Rattle.values.specs.declared.reports.Slip.{Slip}
use Rattle.rules.specs.declared.Terms.{Terms}
use Rattle.rules.specs.declared.Order.{Order}
use Rattle.rules.specs.declared.Prices.{Prices}
use Rattle.rules.specs.declared.Bests.{Bests}
use Rattle.rules.specs.Book.{free, at, Live, prices_of}
use Rattle.rules.specs.Resting.{Turned, turn, fresh, enter}
use Rattle.rules.specs.Sizes.{latest}
use Rattle.trading_laws.specs.Books.{Holds, Settled, Clear, Distinct, Numbered}
use Rattle.trading_laws.specs.Turns.{Modest, After, Entered}
use Rattle.trading_laws.proofs.Trade.{low_keeps}
use Rattle.trading_laws.proofs.Reports.{none_of}
use Rattle.trading_laws.proofs.Turn.{settled_steady, turn_after}
use Rattle.trading_laws.proofs.Telling.{stems_low}

module _ (e : Bests) (R : ℕ → Bool) (look : ℕ → Terms) (send : Order → List Slip) (modest : Modest send) (i n : ℕ) (t : Terms) (b : List Order) where
  abbrev r : Turned
  r = turn e R send i free (fresh (suc n) t) b

  abbrev new : Order
  new = fresh (suc n) t

  -- what rests came with this call, or was there
  abbrev Whence : ℕ → ℕ → Type 0
  Whence j x = ((j ≡ i) × (x ≡ suc n)) ⊎ (Live (at b j) × (x ≡ (at b j).arrival))

  module _ (in' : i < length b) (empty : at b i ≡ free) (known : look (suc n) ≡ t) (settled : Holds (Settled e look) b) (clear : Clear b) (distinct : Distinct b) (numbered : Numbered n b) where
    after : After e look send i free new b r
    after = turn_after e R look send modest i free new b in' empty known (λ j m. (settled j m).held) clear

    -- what holds of the new order and of the others holds of all
    each : (P : Order → Type 0) → (Live (at r.book i) → P (at r.book i)) → ((j : ℕ) → j ≢ i → Live (at r.book j) → P (at r.book j)) → Holds P r.book
    each P own other j = elim (cases_eq j i) [ inl y ↦ subst (λ k. Live (at r.book k) → P (at r.book k)) (sym y) own | inr ne ↦ other j ne ]

    whence : (j : ℕ) → Live (at r.book j) → Whence j (at r.book j).arrival
    whence j m = elim (cases_eq j i) [
      | inl y ↦ inl (y, subst (λ k. Live (at r.book k) → (at r.book k).arrival ≡ suc n) (sym y) (λ k. (after.own k).0) m)
      | inr ne ↦ inr (stems_low b r.book j (after.others j ne) m)
    ]

    apart : (j k x y : ℕ) → x ≡ y → Whence j x → Whence k y → j ≡ k
    apart j k x y z (inl u) (inl v) = u.0 ∙ sym v.0
    apart j k x y z (inl u) (inr v) = absurd (omega (arith, numbered k v.0))
    apart j k x y z (inr u) (inl v) = absurd (omega (arith, numbered j u.0))
    apart j k x y z (inr u) (inr v) = distinct j k u.0 v.0 (sym u.1 ∙ z ∙ v.1)

    shows : (was : ℕ → Prices) → was (suc n) ≡ prices_of free → ((j : ℕ) → Live (at b j) → was (at b j).arrival ≡ prices_of (at b j)) → Holds (λ o. latest o.arrival (was o.arrival) r.out ≡ prices_of o) r.book
    shows was none h =
        each (λ o. latest o.arrival (was o.arrival) r.out ≡ prices_of o)
        (λ m. ap (λ x. latest x (was x) r.out) (after.own m).0 ∙ ap (λ p. latest (suc n) p r.out) none ∙ after.shows m)
        (λ j ne m.
        let w = stems_low b r.book j (after.others j ne) m in
        after.quiet (at r.book j).arrival _ (λ z. omega (arith, z, w.1, (numbered j w.0).1)) ∙ ap was w.1 ∙ h j w.0 ∙ sym (ap prices_of ((after.others j ne).same m)))

    pub enter_entered : Entered e look send n t b (enter e R send i (suc n) t b)
    unfolding enter
    enter_entered = record {
      long = after.long;
      settled = each (Settled e look) (λ m. (after.own m).1) (λ j ne. low_keeps (Settled e look) (after.others j ne) (settled_steady e look (at b j)) (settled j));
      clear = after.clear;
      distinct = λ j k x y z. apart j k (at r.book j).arrival (at r.book k).arrival z (whence j x) (whence k y);
      numbered = λ j m. elim (whence j m) [ inl y ↦ omega (arith, y.1) | inr y ↦ omega (arith, y.1, numbered j y.0) ];
      most = λ h. after.most h (omega arith);
      clean = after.clean;
      sizes = λ a. omega (arith, after.sizes a);
      sent = after.sent;
      nothing_away = λ a. omega (arith, after.nothing_away a);
      announces = ap (λ l. (suc n, t.id) ∷ l) after.nothing_new;
      fair = (tt, after.fair);
      stated = after.stated (none_of (suc n) b (λ j m z. omega (arith, z, (numbered j m).1)));
      quiet = after.quiet;
      shows = shows;
    }
