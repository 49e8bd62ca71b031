use Rattle.std.proofs.Common.{rules, ◌≡◌, ℕ, ◌+◌, ◌++◌, ◌∷◌, cond, List, [], length, get_or, Option, None, sym, ap, subst, ◌∙◌}
use Rattle.ir_text_tree.specs.declared.row.Part.TheVariants as parts
use Rattle.ir_text_names.specs.Firsts.{IsFirst}
use Rattle.ir_text_names.specs.Given.{AreGiven, anywhere}
use Rattle.ir_text_names.specs.Blocks.{IsBlockNamed, NamesNoBlock}
use Rattle.ir_text_names.specs.Places.{row_at}
use Rattle.ir_text_names.specs.Rows.{text_of, row_regions, region_of}
use Rattle.ir_text_names.proofs.FirstRows.{first_more}
use Rattle.ir_text_names.proofs.NamedBlocks.{block_is, block_few, table_more, missed_is, missed_told}
use Rattle.ir_text_names.proofs.block_names.named.Goals as goal

pub push-requires : goal.push-requires
push-requires c =
    let l = c.loop-at in
    let text = c.args.text.now in
    let rows = c.args.rows.now in
    let known = row_at c.args.places.now in
    let holds = c.is_successor-is.result in
    let block = c.block_of-block.result in
    let found : block ≡ cond holds (known (region_of rows l.at) (text_of text rows l.at)) None =
    c.block_of-block.ensures ∙ ap (λ (r : List ℕ). cond holds (known (get_or r l.at 0) (text_of text rows l.at)) None) c.requires.regions in
    let places : AreGiven parts.Label text rows (row_regions rows) anywhere (length rows) known = subst (λ (r : List ℕ). AreGiven parts.Label text rows r anywhere (length rows) known) c.requires.regions c.requires.places in
    block_few text rows l.at 4294967295 block c.requires.few (block_is text rows l.at known holds block places c.is_successor-is.ensures found)

pub loop-at-preserved : goal.loop-at-preserved
loop-at-preserved c =
    let l = c.loop-at in
    let text = c.args.text.now in
    let rows = c.args.rows.now in
    let known = row_at c.args.places.now in
    let holds = c.is_successor-is.result in
    let block = c.block_of-block.result in
    let found : block ≡ cond holds (known (region_of rows l.at) (text_of text rows l.at)) None =
    c.block_of-block.ensures ∙ ap (λ (r : List ℕ). cond holds (known (get_or r l.at 0) (text_of text rows l.at)) None) c.requires.regions in
    let places : AreGiven parts.Label text rows (row_regions rows) anywhere (length rows) known = subst (λ (r : List ℕ). AreGiven parts.Label text rows r anywhere (length rows) known) c.requires.regions c.requires.places in
    let named : IsBlockNamed text rows l.at block = block_is text rows l.at known holds block places c.is_successor-is.ensures found in
    let pushed : c.push.new.self ≡ l.table ++ block ∷ [] = search rules in
    record {
      table = table_more text rows l.at block l.table c.push.new.self named pushed l.invariant.table;
      unknown = subst (λ (o : Option ℕ). IsFirst (NamesNoBlock text rows) (l.at + 1) o) (sym c.noted-unknown.ensures)
          (first_more (NamesNoBlock text rows) l.at l.unknown c.misses.result (λ e. missed_is text rows l.at holds block c.is_successor-is.ensures named (sym c.misses.ensures ∙ e))
          (λ none. c.misses.ensures ∙ missed_told text rows l.at holds block c.is_successor-is.ensures named none) l.invariant.unknown);
    }
