use Rattle.std.proofs.Common.{sym, ap, length, ◌∙◌, arith}
use Rattle.ir_core_context.specs.State.{types_of}
use Rattle.ir_model.proofs.GrowsNew.{WellFormed-more, stored_within}
use Rattle.ir_core_context.proofs.StoredTypes.{new-place, on-err, places, stores, stores-longer}
use Rattle.ir_core_context.proofs.context.Context.instantiate_key.Goals as goal
use Rattle.ir_core_records.specs.DialectAnswers.{behaviour_of}

pub invariant_of-self-2 : goal.invariant_of-self-2
invariant_of-self-2 g c =
    let s = c.self.invariant in
    let more = stores-longer g.row.D-Attr.Denot _ _ g.row.D-Saved.Denot g.row.D-Aux.Denot _ g.D.TypeKey.PartialEq.eq g.D.Dialects.first_body g.D.Dialects.unknown g.D.Dialects.op_impls_of _ c.self.inside.types c.get_or_insert.new.self c.args.key c.in_ok-place.ensures.stored in
    record {
      linked = s.linked;
      nested = s.nested;
      own = s.own;
      formed = WellFormed-more _ _ _ more s.formed;
      counted = record {
        values = s.counted.values;
        uses = s.counted.uses;
        value_limit = s.counted.value_limit;
        use_limit = s.counted.use_limit;
        limits = s.counted.limits;
        op_slots = s.counted.op_slots;
        block_slots = s.counted.block_slots;
        region_slots = s.counted.region_slots;
        aux_slots = s.counted.aux_slots;
      };
    }

pub returns-clause-place : goal.returns-clause-place
returns-clause-place g c =
    rw (sym c.self.view_is)
    (c.at.ensures ∙ c.in_ok-place.ensures.place
    ∙ places g.row.D-Attr.Denot _ _ g.row.D-Saved.Denot g.row.D-Aux.Denot _ g.D.TypeKey.PartialEq.eq g.D.Dialects.first_body g.D.Dialects.unknown g.D.Dialects.op_impls_of c.self.inside.types c.args.key)

pub returns-clause-types : goal.returns-clause-types
returns-clause-types g c =
    rw (sym c.self.view_is)
    (stores g.row.D-Attr.Denot _ _ g.row.D-Saved.Denot g.row.D-Aux.Denot _ g.D.TypeKey.PartialEq.eq g.D.Dialects.first_body g.D.Dialects.unknown g.D.Dialects.op_impls_of _ g.met.D.Dialects.default_body c.self.inside.types c.get_or_insert.new.self c.args.key c.in_ok-place.ensures.stored)

pub returns-clause-known : goal.returns-clause-known
returns-clause-known g c =
    let within = stored_within (behaviour_of g.D.Dialects g.D.TypeKey.PartialEq.eq) (types_of c.args.self.now) c.args.key in
    omega (arith, within.1, returns-clause-place g c, ap length (returns-clause-types g c))

pub returns-in_err-place-clause-only_new : goal.returns-in_err-place-clause-only_new
returns-in_err-place-clause-only_new g c =
    rw (sym c.self.view_is)
    (on-err c.from_residual.result (new-place g.row.D-Attr.Denot _ _ g.row.D-Saved.Denot g.row.D-Aux.Denot _ g.D.TypeKey.PartialEq.eq g.D.Dialects.first_body g.D.Dialects.unknown g.D.Dialects.op_impls_of c.self.inside.types c.args.key c.in_err-place.ensures.only_new))
