use Rattle.std.proofs.Common.{◌≡◌, rules, All, ◌++◌, inl, map, length, refl, sym, ap, subst, ◌∙◌}
use Rattle.ir_model.specs.Forest.{a_block, a_region, an_op}
use Rattle.ir_model.specs.Nesting.{IsLive}
use Rattle.ir_model_passes.specs.Unreached.{RemovesUnreached}
use Rattle.ir_core_queries.specs.State.{bare, forest_of, types_of}
use Rattle.ir_core_records.specs.DialectAnswers.{behaviour_of}
use Rattle.ir_run_unreached.specs.Removals.{CanEraseEach, DropsEach, ErasesEach}
use Rattle.ir_run_unreached.proofs.Removals.{all_listed, can_erase, each_live, none_left, so_many, some_removed}
use Rattle.ir_run_unreached.proofs.Rest.{same_joined}
use Rattle.ir_run_unreached.proofs.Slices.{length_seen, seen_each}
use Rattle.ir_run_unreached.proofs.removing.remove_unreached.Goals as goal

pub drop_each-requires : goal.drop_each-requires
drop_each-requires g c =
    let f = forest_of c.args.ctx.now in
    subst (λ xs. All (λ p. IsLive f (a_block p.index)) xs) (sym c.as_slice-listed.ensures.value)
    (seen_each c.in_ok-blocks.blocks.items (λ p. p.index) (λ b. IsLive f (a_block b)) (λ b h. each_live f c.args.region.index c.recall_well_formed.ensures.nested _ c.in_ok-blocks.ensures.listed b h))

pub erase_each-requires : goal.erase_each-requires
erase_each-requires g c =
    let f = forest_of c.args.ctx.now in
    let drops = subst (λ xs. DropsEach f (map (λ p. p.index) xs) (forest_of c.drop_each.new.ctx)) c.as_slice-listed.ensures.value c.drop_each.ensures.dropped in
    subst (λ xs. CanEraseEach (forest_of c.drop_each.new.ctx) (map (λ p. p.index) xs)) (sym c.as_slice-listed.ensures.value)
    (can_erase f c.args.region.index c.recall_well_formed.ensures.nested _ c.in_ok-blocks.ensures.listed c.requires.names (forest_of c.drop_each.new.ctx) drops)

pub returns : goal.returns
returns g c =
    let f = forest_of c.args.ctx.now in
    let r = c.args.region.index in
    let h = forest_of c.erase_each.new.ctx in
    let keys = length (types_of c.args.ctx.now) in
    let formed = c.recall_well_formed.ensures in
    let blocks = c.in_ok-blocks.blocks.items in
    let listed = c.in_ok-blocks.ensures.listed in
    let drops = subst (λ xs. DropsEach f (map (λ p. p.index) xs) (forest_of c.drop_each.new.ctx)) c.as_slice-listed.ensures.value c.drop_each.ensures.dropped in
    let erases = subst (λ xs. ErasesEach (forest_of c.drop_each.new.ctx) (map (λ p. p.index) xs) h) c.as_slice-listed.ensures.value c.erase_each.ensures.erased in
    let some = some_removed f r formed.nested _ listed (forest_of c.drop_each.new.ctx) h drops erases in
    let none = none_left f r formed.nested _ listed (forest_of c.drop_each.new.ctx) h c.recall_nested.ensures erases in
    let room = c.room-room.ensures.exact in
    let live = all_listed f room.ops.number.0 room.blocks.number.0 room.regions.number.0 (λ o l. (room.ops.number.2 o).1 (inl l)) (λ b l. (room.blocks.number.2 b).1 (inl l)) (λ q l. (room.regions.number.2 q).1 (inl l)) in
    let all = c.steps_remove_unreached.ensures f h keys r (map an_op room.ops.number.0 ++ (map a_block room.blocks.number.0 ++ map a_region room.regions.number.0)) formed live some none in
    let size : c.len.result ≡ length blocks = search rules in
    let count = so_many f r formed.nested _ listed h all.0 all.1 ∙ length_seen blocks (λ p. p.index) ∙ sym size in
    let tells = c.unreached_removal_is_one.ensures (behaviour_of g.D.Dialects g.D.TypeKey.PartialEq.eq) (λ kind attributes values types place. tt) f h keys all.0 r formed all.1 in
    record {
      removed = subst (RemovesUnreached f r h) count all.1;
      none_left = tells.none_unreached;
      unchanged = tt;
      memory = tt;
      rest = same_joined _ _ _ c.drop_each.ensures.rest c.erase_each.ensures.rest;
    }
