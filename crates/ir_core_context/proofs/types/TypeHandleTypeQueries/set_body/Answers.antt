use Rattle.std.proofs.Common.{◌≡◌, sym, ap, ◌∙◌, length, map, arith}
use Rattle.indexmap.specs.IndexMap.{set_value_at}
use Rattle.ir_model.proofs.GrowsNew.{WellFormed-more}
use Rattle.ir_core_context.specs.State.{types_of}
use Rattle.ir_core_context.proofs.StoredTypes.{length-set, length-stored, set-stored, type_stored}
use Rattle.ir_core_context.proofs.types.TypeHandleTypeQueries.set_body.Goals as goal

pub set_body-requires : goal.set_body-requires
set_body-requires g c =
    let same = length-stored g.row.D-Attr.Denot g.row.D-TypeKey.Denot g.row.D-TypeBody.Denot g.row.D-Saved.Denot g.row.D-Aux.Denot g.row.D-Loc.Denot c.ctx.inside.types in
    omega (arith, same, ap (λ s. length (types_of s)) c.ctx.view_is, c.requires)

pub invariant_of-ctx : goal.invariant_of-ctx
invariant_of-ctx g c =
    let s = c.ctx.invariant in
    let same = length-set g.row.D-TypeKey.Denot g.row.D-TypeBody.Denot c.ctx.inside.types c.args.self.place c.args.body in
    record {
      linked = s.linked;
      nested = s.nested;
      own = s.own;
      formed = WellFormed-more _ _ _ (omega (arith, same, ap length c.set_body.ensures)) s.formed;
      counted = record {
        values = s.counted.values;
        uses = s.counted.uses;
        value_limit = s.counted.value_limit;
        use_limit = s.counted.use_limit;
        limits = s.counted.limits;
        op_slots = s.counted.op_slots;
        block_slots = s.counted.block_slots;
        region_slots = s.counted.region_slots;
        aux_slots = s.counted.aux_slots;
      };
    }

pub returns-clause-types : goal.returns-clause-types
returns-clause-types g c =
    rw (sym c.ctx.view_is)
    (ap (map (type_stored g.row.D-Attr.Denot g.row.D-TypeKey.Denot g.row.D-TypeBody.Denot g.row.D-Saved.Denot g.row.D-Aux.Denot g.row.D-Loc.Denot)) c.set_body.ensures
    ∙ set-stored g.row.D-Attr.Denot g.row.D-TypeKey.Denot g.row.D-TypeBody.Denot g.row.D-Saved.Denot g.row.D-Aux.Denot g.row.D-Loc.Denot c.ctx.inside.types c.args.self.place c.args.body)
