-- A list grows by nothing, and by one batch after another. Assumes nothing.
use Rattle.std.proofs.Common.{List, [], ◌++◌, sym, refl, ap, ◌∙◌, arith, length-append}
use Rattle.std.proofs.lemmas.List.{append_assoc, append-nil}
use Rattle.records.specs.declared.list.AppendList.{AppendList}
use Rattle.records.specs.Contents.{contents, Grown}

module _ {T : Type 0} where
  pub grown_none : (l : AppendList T) → Grown l [] l
  grown_none l = record { place = refl; room = refl; added = sym (append-nil (contents l)); used = omega arith }

  pub grown_more : (l m n : AppendList T) (xs ys : List T) → Grown l xs m → Grown m ys n → Grown l (xs ++ ys) n
  grown_more l m n xs ys g h = record {
    place = h.place ∙ g.place;
    room = h.room ∙ g.room;
    added = h.added ∙ ap (λ zs. zs ++ ys) g.added ∙ append_assoc (contents l) xs ys;
    used = omega (arith, length-append xs ys);
  }
