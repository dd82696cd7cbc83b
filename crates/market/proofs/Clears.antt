-- The steps of the loop that makes a board absent.
use Rattle.std.proofs.Common.{◌≡◌, ℕ, ◌+◌, ◌-◌, ◌<◌, ◌≤◌, cond, List, length, get_or, set, replicate, sym, ap, ◌∙◌, inl, inr, arith}
use Rattle.std.proofs.lemmas.List.{get_or-set_same, get_or-set_other, get_or-replicate, ext_get_or}
use Rattle.std.proofs.lemmas.Bool.{cases_eq}
use Rattle.market.specs.declared.board.Quote.{Quote}
use Rattle.market.specs.Quotes.{absent, told}
use Rattle.market.proofs.Packs.{here_in}

pub clear_more : (qs ts : List Quote) (e : ℕ) → length qs ≡ 15 → 1 ≤ e → e < 16 → ts ≡ told qs e absent → ((k : ℕ) → k + 1 < e → get_or qs k absent ≡ absent) → (k : ℕ) → k + 1 < e + 1 → get_or ts k absent ≡ absent
clear_more qs ts e n l m t inv k h =
    let s : ts ≡ set qs (e - 1) absent = t ∙ ap (λ b. cond b (set qs (e - 1) absent) qs) (here_in e l (omega arith)) in
    ap (λ x. get_or x k absent) s ∙ elim (cases_eq k (e - 1)) [
      | inl eq ↦ ap (λ x. get_or (set qs (e - 1) absent) x absent) eq ∙ get_or-set_same qs (e - 1) absent absent (omega arith)
      | inr ne ↦ get_or-set_other qs (e - 1) k absent absent ne ∙ inv k (omega arith)
    ]

pub clear_all : (qs : List Quote) (e : ℕ) → length qs ≡ 15 → 16 ≤ e → ((k : ℕ) → k + 1 < e → get_or qs k absent ≡ absent) → qs ≡ replicate 15 absent
clear_all qs e n l inv =
    ext_get_or absent qs (replicate 15 absent) n (λ i h. inv i (omega arith) ∙ sym (get_or-replicate 15 i absent absent (omega arith)))
