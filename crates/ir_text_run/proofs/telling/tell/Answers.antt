use Rattle.std.proofs.Common.{rules, ◌≡◌, ◌++◌, List, ℕ, Err, codes, refl, subst}
use Rattle.std.specs.Io.KnownBytes.{Appends}
use Rattle.ir_text_spelling.specs.Writings.{AppendsFront, Writes}
use Rattle.ir_text_run.specs.Faults.{place_of}
use Rattle.ir_text_run.specs.Telling.{place_told}
use Rattle.ir_text_run.proofs.LinesTold.{front_after, front_of, then_writes, some_words}
use Rattle.ir_text_run.proofs.telling.tell.Goals as goal

pub returns-in_err-write_bytes : goal.returns-in_err-write_bytes
returns-in_err-write_bytes g c =
    let a = g.F.Write.contents c.args.fault.now in
    let b = g.F.Write.contents c.write_bytes.new.output in
    let name = c.args.name.now in
    let any = some_words c.args.error in
    let rest = place_told c.args.text.now c.args.lines (place_of c.args.error) ++ (codes ": error: " ++ (any.0 ++ codes "\n")) in
    let is : c.from_residual.result ≡ Err c.in_err-write_bytes.field-0.0 = search rules in
    let broke : AppendsFront a b name = subst (λ (l : List ℕ). AppendsFront a b l) c.as_bytes.ensures.value c.in_err-write_bytes.ensures in
    (name ++ rest, record { words = any.0; are_words = any.1; is = refl }, rw is (front_of a b name rest broke))

pub returns-in_err-write_place : goal.returns-in_err-write_place
returns-in_err-write_place g c =
    let a = g.F.Write.contents c.args.fault.now in
    let b = g.F.Write.contents c.write_bytes.new.output in
    let d = g.F.Write.contents c.write_place.new.fault in
    let name = c.args.name.now in
    let any = some_words c.args.error in
    let place = place_told c.args.text.now c.args.lines (place_of c.args.error) in
    let rest = codes ": error: " ++ (any.0 ++ codes "\n") in
    let is : c.from_residual-in_err-write_place.result ≡ Err c.in_err-write_place.field-0.0 = search rules in
    let named : Appends a b name = subst (λ (l : List ℕ). Appends a b l) c.as_bytes.ensures.value c.in_ok-write_bytes.ensures in
    let broke : AppendsFront b d place = search rules in
    (name ++ (place ++ rest), record { words = any.0; are_words = any.1; is = refl }, rw is (front_after a b d name (place ++ rest) named (front_of b d place rest broke)))

pub returns-in_err-write_bytes-2 : goal.returns-in_err-write_bytes-2
returns-in_err-write_bytes-2 g c =
    let a = g.F.Write.contents c.args.fault.now in
    let b = g.F.Write.contents c.write_bytes.new.output in
    let d = g.F.Write.contents c.write_place.new.fault in
    let e = g.F.Write.contents c.write_bytes-2.new.output in
    let name = c.args.name.now in
    let any = some_words c.args.error in
    let place = place_told c.args.text.now c.args.lines (place_of c.args.error) in
    let rest = any.0 ++ codes "\n" in
    let is : c.from_residual-in_err-write_bytes-2.result ≡ Err c.in_err-write_bytes-2.field-0.0 = search rules in
    let named : Appends a b name = subst (λ (l : List ℕ). Appends a b l) c.as_bytes.ensures.value c.in_ok-write_bytes.ensures in
    let placed : Appends b d place = search rules in
    let broke : AppendsFront d e (codes ": error: ") = search rules in
    (name ++ (place ++ (codes ": error: " ++ rest)), record { words = any.0; are_words = any.1; is = refl }, rw is (front_after a b e name (place ++ (codes ": error: " ++ rest)) named (front_after b d e place (codes ": error: " ++ rest) placed (front_of d e (codes ": error: ") rest broke))))

pub returns-in_err-write_words : goal.returns-in_err-write_words
returns-in_err-write_words g c =
    let a = g.F.Write.contents c.args.fault.now in
    let b = g.F.Write.contents c.write_bytes.new.output in
    let d = g.F.Write.contents c.write_place.new.fault in
    let e = g.F.Write.contents c.write_bytes-2.new.output in
    let f = g.F.Write.contents c.write_words.new.fault in
    let name = c.args.name.now in
    let told = c.in_err-write_words.ensures in
    let place = place_told c.args.text.now c.args.lines (place_of c.args.error) in
    let rest = told.0 ++ codes "\n" in
    let is : c.from_residual-in_err-write_words.result ≡ Err c.in_err-write_words.field-0.0 = search rules in
    let named : Appends a b name = subst (λ (l : List ℕ). Appends a b l) c.as_bytes.ensures.value c.in_ok-write_bytes.ensures in
    let placed : Appends b d place = search rules in
    let broke : AppendsFront d f (codes ": error: " ++ rest) = front_after d e f (codes ": error: ") rest c.in_ok-write_bytes-2.ensures (front_of e f told.0 (codes "\n") told.2) in
    (name ++ (place ++ (codes ": error: " ++ rest)), record { words = told.0; are_words = told.1; is = refl }, rw is (front_after a b f name (place ++ (codes ": error: " ++ rest)) named (front_after b d f place (codes ": error: " ++ rest) placed broke)))

pub returns : goal.returns
returns g c =
    let a = g.F.Write.contents c.args.fault.now in
    let b = g.F.Write.contents c.write_bytes.new.output in
    let d = g.F.Write.contents c.write_place.new.fault in
    let e = g.F.Write.contents c.write_bytes-2.new.output in
    let f = g.F.Write.contents c.write_words.new.fault in
    let h = g.F.Write.contents c.write_bytes-3.new.output in
    let r = c.write_bytes-3.result in
    let name = c.args.name.now in
    let told = c.in_ok-write_words.ensures in
    let place = place_told c.args.text.now c.args.lines (place_of c.args.error) in
    let rest = told.0 ++ codes "\n" in
    let named : Appends a b name = subst (λ (l : List ℕ). Appends a b l) c.as_bytes.ensures.value c.in_ok-write_bytes.ensures in
    let placed : Appends b d place = search rules in
    let ended : Writes e h rest r = then_writes e f h told.0 (codes "\n") r told.2 c.write_bytes-3.ensures in
    let behind : Writes d h (codes ": error: " ++ rest) r = then_writes d e h (codes ": error: ") rest r c.in_ok-write_bytes-2.ensures ended in
    (name ++ (place ++ (codes ": error: " ++ rest)), record { words = told.0; are_words = told.1; is = refl }, then_writes a b h name (place ++ (codes ": error: " ++ rest)) r named (then_writes b d h place (codes ": error: " ++ rest) r placed behind))
