use Rattle.std.proofs.Common.{◌≡◌, ℕ, List, [], length, Option, refl, sym, ap, subst, ◌∙◌}
use Rattle.ir_text_tree.specs.declared.row.Part.TheVariants as parts
use Rattle.ir_text_tree.specs.declared.row.Row.{Row}
use Rattle.ir_text_names.specs.declared.firsts.Found.{Found}
use Rattle.ir_text_names.specs.declared.fault.Wrong.TheVariants as wrongs
use Rattle.ir_text_names.specs.Firsts.{IsFirst, IsFirstWrong, told, sooner}
use Rattle.ir_text_names.specs.Given.{IsAgain}
use Rattle.ir_text_names.specs.Blocks.{IsBlockWrong}
use Rattle.ir_text_names.specs.Rows.{regions_behind, row_regions}
use Rattle.ir_text_names.proofs.EscapedNames.{no_blocks_escaped}
use Rattle.ir_text_names.proofs.Scopes.{length-scopes_from}
use Rattle.ir_text_names.proofs.NamedBlocks.{block_wrong}
use Rattle.ir_text_names.proofs.block_names.block_table.Goals as goal

pub given-requires-clause-counted : goal.given-requires-clause-counted
given-requires-clause-counted c = ap length c.requires.regions ∙ length-scopes_from regions_behind [] 0 c.args.rows.now

pub given-requires-clause-escaped : goal.given-requires-clause-escaped
given-requires-clause-escaped c = sym (no_blocks_escaped c.args.text.now c.args.rows.now)

pub named-requires-clause-counted : goal.named-requires-clause-counted
named-requires-clause-counted c = ap length c.requires.regions ∙ length-scopes_from regions_behind [] 0 c.args.rows.now

pub given-requires-clause-asked : goal.given-requires-clause-asked
given-requires-clause-asked c = λ i j lt within p q e. refl

pub named-requires-clause-places : goal.named-requires-clause-places
named-requires-clause-places c = let h = c.in_ok-given.ensures.places in record { all = λ i lt p t. h.all i lt p refl; only = h.only }

-- the first of both
first_of_both : (found a b : Option Found) (again unknown : Option ℕ) → found ≡ sooner a b → a ≡ told again wrongs.BlockTwice → b ≡ told unknown wrongs.UnknownBlock → sooner (told again wrongs.BlockTwice) (told unknown wrongs.UnknownBlock) ≡ found
first_of_both found a b again unknown e f g = sym (e ∙ ap (λ (x : Option Found). sooner x b) f ∙ ap (sooner (told again wrongs.BlockTwice)) g)

first_again : (text : List ℕ) (rows : List Row) (scopes regions : List ℕ) (again : Option ℕ) → scopes ≡ regions → IsFirst (IsAgain parts.Label text rows scopes) (length rows) again → IsFirst (IsAgain parts.Label text rows regions) (length rows) again
first_again text rows scopes regions again e h = subst (λ (s : List ℕ). IsFirst (IsAgain parts.Label text rows s) (length rows) again) e h

pub returns-clause-found : goal.returns-clause-found
returns-clause-found c =
    let text = c.args.text.now in
    let rows = c.args.rows.now in
    let again = c.in_ok-given.given.again in
    let unknown = c.in_ok-named.named.unknown in
    let first = first_again text rows c.args.regions.now (row_regions rows) again c.requires.regions c.in_ok-given.ensures.again in
    let both = first_of_both c.sooner-found.result c.told-twice.result c.told-unknown.result again unknown c.sooner-found.ensures c.told-twice.ensures c.told-unknown.ensures in
    subst (IsFirstWrong (IsBlockWrong text rows) (length rows)) both (block_wrong text rows again unknown first c.in_ok-named.ensures.unknown)
