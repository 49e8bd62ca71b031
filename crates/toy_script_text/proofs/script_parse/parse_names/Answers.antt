use mathlib.Core.Path.{◌≡◌, sym, subst}
use Rattle.std.proofs.Common.{rules, true, [], ◌∷◌, ◌++◌, map, lit<}
use Rattle.std.proofs.lemmas.Iterator.{items_from_drains}
use Rattle.std.proofs.lemmas.Iterator.Splits.{YieldsList-from_str_split}
use Rattle.std.specs.List.{AllZip}
use Rattle.std.specs.Str.Iter.{split_text, split_has_more, split_pattern}
use Rattle.toy_script_text.specs.Fields.{IsNameOf}
use Rattle.toy_script_text.proofs.NameLists.{more, all_names, named}
use Rattle.toy_script_text.proofs.script_parse.parse_names.Goals as goal

-- src/script_parse.rt:325:5
pub loop-name-preserved : goal.loop-name-preserved
loop-name-preserved c = subst (λ ns. AllZip (IsNameOf c.args.letter) (map (λ name. name.now) (c.loop-name.yielded ++ c.in-Some.name ∷ [])) ns) (sym c.in_ok-push.ensures.items) (more (λ name. name.now) c.args.letter c.loop-name.yielded c.in-Some.name c.loop-name.numbers.items c.in_ok-number.number c.loop-name.invariant (named c.args.letter c.in-Some.name.now c.parse_name.result c.in_ok-number.number c.parse_name.ensures (search rules)))

-- src/script_parse.rt:317:1
pub returns : goal.returns
returns c = record { names = all_names c.args.letter c.args.text.now (map (λ name. name.now) c.loop-name.yielded) c.loop-name.numbers.items c.loop-name.invariant (items_from_drains c.loop-name.yielded (c.loop-name.name-iterator, c.loop-name.yielded_by, λ _. (c.next.new.self, c.in-None.ensures.steps)) (YieldsList-from_str_split 44 c.args.text.now (lit< tt) (subst (λ s. split_text s ≡ c.args.text.now) (sym c.into_iter-name-iterator.ensures.into_iter_gives) c.split-name-items.ensures.text) (subst (λ s. split_has_more s ≡ true) (sym c.into_iter-name-iterator.ensures.into_iter_gives) c.split-name-items.ensures.has_more) (subst (λ s. split_pattern s ≡ 44) (sym c.into_iter-name-iterator.ensures.into_iter_gives) c.split-name-items.ensures.pattern))) }
