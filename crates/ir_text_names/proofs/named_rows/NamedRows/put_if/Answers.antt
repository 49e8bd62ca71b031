use Rattle.std.proofs.Common.{◌&&◌, Bool, Some, cond, bytes_eq, refl, sym, ap, ◌∙◌}
use Rattle.ir_text_names.specs.NamedRows.{named_row}
use Rattle.ir_text_names.proofs.Spots.{put_at_spot}
use Rattle.ir_text_names.proofs.named_rows.NamedRows.put_if.Goals as goal

pub returns-in_ok-put_spot-in-Some-clause-puts : goal.returns-in_ok-put_spot-in-Some-clause-puts
returns-in_ok-put_spot-in-Some-clause-puts c =
    λ m.
    let old = c.args.self.now in
    put_at_spot c.args.name.now m c.in-Some.spot c.args.row old (record { limit = old.limit; spots = c.put_spot.new.spots; others = old.others }) (sym c.in-Some.ensures) c.in_ok-put_spot-in-Some.ensures refl refl
    ∙ sym (ap (λ (b : Bool). cond (b && bytes_eq c.args.name.now m) (Some c.args.row) (named_row old m)) c.if-not-is.false)
