-- One byte after the other: what is written, with what is still to come, is all. Assumes nothing.
use Rattle.std.proofs.Common.{◌≡◌, ℕ, ◌+◌, ◌<◌, ◌≤◌, List, ◌++◌, length, get_or, drop, sym, ap, ◌∙◌, append_assoc, append-nil}
use Rattle.std.proofs.lemmas.List.{drop_more, drop_all}
use Rattle.morning.specs.Words.{byte_text, dump_from}

pub dump_more : (bs : List ℕ) (i d : ℕ) (was after all : List ℕ) → i < length bs → after ≡ was ++ byte_text i (get_or bs i d) → was ++ dump_from i (drop i bs) ≡ all → after ++ dump_from (i + 1) (drop (i + 1) bs) ≡ all
unfolding dump_from
dump_more bs i d was after all lt wrote sofar =
    ap (λ l. l ++ dump_from (i + 1) (drop (i + 1) bs)) wrote
    ∙ append_assoc was (byte_text i (get_or bs i d)) (dump_from (i + 1) (drop (i + 1) bs))
    ∙ sym (ap (λ l. was ++ dump_from i l) (drop_more bs i d lt))
    ∙ sofar

pub dump_end : (bs : List ℕ) (i : ℕ) (was all : List ℕ) → length bs ≤ i → was ++ dump_from i (drop i bs) ≡ all → was ≡ all
unfolding dump_from
dump_end bs i was all le sofar = sym (append-nil was) ∙ sym (ap (λ l. was ++ dump_from i l) (drop_all i bs le)) ∙ sofar
