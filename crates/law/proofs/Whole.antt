-- Every run is lawful and kept. Assumes nothing.
--     good_new      a new series is good
--     keeps         every step keeps it good
--     law           so every run is good, and what is good is lawful and kept
use Rattle.std.proofs.Common.{◌≡◌, ℕ, zero, suc, ◌<◌, Bool, List, [], ◌∷◌, replicate, refl, subst, arith}
use Rattle.std.proofs.lemmas.List.Sums.{sum_by-cons}
use Rattle.rules.specs.Book.{free, at, Live}
use Rattle.rules.specs.Sizes.{part, resting}
use Rattle.rules.specs.Slips.{no_sent, sent_at, OutThere}
use Rattle.rules.specs.States.{State, new}
use Rattle.rules.specs.Steps.{Event, Step, Run}
use Rattle.rules.specs.Steps.Step.{opened, told, entered, dropped, replied, left}
use Rattle.rules.specs.Steps.Run.{start, next}
use Rattle.rules.specs.Law.{Law}
use Rattle.trading_laws.proofs.Reports.{part_none}
use Rattle.law.proofs.Outs.{has_none}
use Rattle.law.proofs.Good.{Good, good_lawful, good_kept}
use Rattle.law.proofs.Keeps.{after_opened, after_told, after_dropped, after_replied, after_left}
use Rattle.law.proofs.Enters.{after_entered}

-- ---- a new series
all_free : (n j : ℕ) → at (replicate n free) j ≡ free
all_free zero j = refl
all_free (suc n) zero = refl
all_free (suc n) (suc j) = all_free n j

all_vacant : (n j : ℕ) → sent_at (replicate n no_sent) j ≡ no_sent
all_vacant zero j = refl
all_vacant (suc n) zero = refl
all_vacant (suc n) (suc j) = all_vacant n j

none_rests : (a n : ℕ) → resting a (replicate n free) ≡ 0
none_rests a zero = refl
none_rests a (suc n) = omega (arith, sum_by-cons (part a) free (replicate n free), part_none a free refl, none_rests a n)

good_new : (R : ℕ → Bool) (wide : Bool) → Good R [] (new wide)
good_new R wide =
    let dead : (j : ℕ) → Live (at (replicate 64 free) j) → ⊥ = λ j m. let z : 0 < 0 = subst Live (all_free 64 j) m in omega arith in
    let in' : (j : ℕ) → OutThere (sent_at (replicate 64 no_sent) j) → ⊥ = λ j m. let z : 0 < 0 = subst OutThere (all_vacant 64 j) m in omega arith in
    record {
      opened = refl;
      quotes = refl;
      fifteen = refl;
      arrivals = refl;
      numbers = refl;
      book = record {
        settled = λ j m. absurd (dead j m);
        clear = λ j k m. absurd (dead j m);
        distinct = λ j k m. absurd (dead j m);
        numbered = λ j m. absurd (dead j m);
        clean = λ j m. all_free 64 j;
        places = refl;
      };
      seated = record {
        table = record {
          sent = λ j m. absurd (in' j m);
          filed = λ x m. absurd (has_none x m);
          ids = λ j m. absurd (in' j m);
          apart = λ j k m. absurd (in' j m);
          vacant = λ j m. all_vacant 64 j;
          below = λ j m. absurd (in' j m);
        };
        seats = refl;
        unique = tt;
        arrived = tt;
      };
      sizes = λ a. omega (arith, none_rests a 64);
      prices = λ j m. absurd (dead j m);
      unheard = λ a n. refl;
      fills = tt;
      stated = tt;
      room = tt;
      counted = tt;
      answered = tt;
    }

-- ---- every step
keeps : {R : ℕ → Bool} {h : List Event} {s s' : State} {e : Event} → Good R h s → Step R s e s' → Good R (e ∷ h) s'
keeps {R} {h} g (opened {s = s} {m = m} fine) = after_opened R h s g m
keeps {R} {h} g (told {s = s} {m = m} {x = x} {q = q} fine) = after_told R h s g x q m fine
keeps {R} {h} g (entered {s = s} {m = m} {f = f} i o fine is in' empty) = after_entered R h s g f o m i fine is in' empty
keeps {R} {h} g (dropped {s = s} {m = m} {id = id} i fine place) = after_dropped R h s g id m i fine place
keeps {R} {h} g (replied {s = s} {m = m} {n = n} {f = f} i fine place) = after_replied R h s g n f m i fine place
keeps {R} {h} g (left {s = s} {c = c} {m = m} f why) = after_left R h s g c m f

pub good : {R : ℕ → Bool} {wide : Bool} {h : List Event} {s : State} → Run R wide h s → Good R h s
good {R} {wide} start = good_new R wide
good (next r x) = keeps (good r) x

pub law : Law
law R rungs wide h s r = (good_lawful R h s (good r), good_kept R h s (good r))
