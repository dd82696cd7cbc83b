use Rattle.std.proofs.Common.{◌≡◌, [], ◌∷◌, ◌++◌, take, string_bytes, sym, ap, ◌∙◌, rules}
use Rattle.std.specs.List.{flat_map}
use Rattle.std.proofs.lemmas.List.{take_all, take_more, flat_map_more}
use Rattle.telling.proofs.told.put_each.Goals as goal

pub loop-one-preserved : goal.loop-one-preserved
loop-one-preserved g c =
    let words = g.T.Told.words in
    let start = string_bytes c.args.out.now in
    let all = c.args.all.now in
    let i = c.loop-one.one-index in
    let one = c.one-item.result in
    let put : string_bytes c.put.new.out ≡ string_bytes c.loop-one.out ++ words one = c.in_ok-put.ensures in
    let one_more = ap (λ l. take i all ++ l ∷ []) c.one-item.is ∙ sym (take_more all i one (search rules)) in
    put ∙ ap (λ l. l ++ words one) c.loop-one.invariant ∙ flat_map_more words start (take i all) one ∙ ap (λ l. start ++ flat_map words l) one_more

pub returns : goal.returns
returns g c = c.loop-one.invariant ∙ ap (λ l. string_bytes c.args.out.now ++ flat_map g.T.Told.words l) (take_all _ c.args.all.now (search rules))
