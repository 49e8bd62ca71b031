-- Operations of two forests whose heads are the same rows.
use Rattle.std.proofs.Common.{◌≡◌, ℕ, ◌+◌, ◌<◌, ◌≤◌, true, List, length, Some, refl, sym, ap, ◌∙◌, subst, inl, inr, ⊎_elim, arith}
use Rattle.std.proofs.lemmas.Bool.{cases_lt, cases_eq}
use Rattle.ir_model.specs.declared.ids.ArenaIndex.{ArenaIndex}
use Rattle.ir_model.specs.Forest.{Dialect, of_op}
use Rattle.ir_model.specs.Nesting.{operands_of, successors_of, definitions_of}
use Rattle.ir_text_tree.specs.declared.row.Part.TheVariants as parts
use Rattle.ir_text_described.specs.Trees.{part_at, bytes_at, width_at, behind_result}
use Rattle.ir_text_described.specs.Written.{Setting, AreResults, no_results, more_results, IsOperand, IsSuccessor, IsHead, MayStand, name_of, properties_of, begins_operation}
use Rattle.ir_text_described.proofs.Ranks.{rank, rank_at, is_row, gives, GiveNothing, one_gives, more_give}
use Rattle.ir_text_described.proofs.Onward.{Onward, onward, Twice, low, meet, steps_give_nothing}
use Rattle.ir_text_described.proofs.Sides.{Sides, one, other, Row, plain_row, count_row, result_behind, index_row, may_rows, may_low, may_meet}

-- ---- names of results

-- from a row on that names results to the name of the operation, with so many results before it and so many in all
pub data Named {W : Dialect} (s : Setting W) (o : ArenaIndex) (n end : ℕ) : ℕ → ℕ → Type 0 where
  there : {k at : ℕ} → k ≡ n → at ≡ end → Named s o n end k at
  on : {k at : ℕ} → part_at s.tree at ≡ parts.Result → s.meanings.values at ≡ Some (record { definer = of_op o; first = k }) → Named s o n end (k + width_at s.tree at) (behind_result s.tree at) → Named s o n end k at

named_from : {W : Dialect} (s : Setting W) (o : ArenaIndex) {from : ℕ} (n end : ℕ) {k at : ℕ} → AreResults s o from k at → Named s o n end k at → Named s o n end 0 from
named_from s o n end no_results rest = rest
named_from s o n end (more_results before part meant) rest = named_from s o n end before (on part meant rest)

named : {W : Dialect} (s : Setting W) (o : ArenaIndex) {from n end : ℕ} → AreResults s o from n end → Named s o n end 0 from
named s o {n = n} {end = end} r = named_from s o n end r (there refl refl)

module _ {W V : Dialect} (w : Sides W V) (o p : ArenaIndex) where
  record SameResults (at n n' end end' : ℕ) : Type 0 where
    so_many : n ≡ n'
    ends : end ≡ end'
    rows : (r : ℕ) → at ≤ r → r < end → Row w (of_op o) (of_op p) r

  result_row : (k at r : ℕ) → part_at w.tree at ≡ parts.Result → w.meanings.values at ≡ Some (record { definer = of_op o; first = k }) → w.meanings'.values at ≡ Some (record { definer = of_op p; first = k }) → at ≡ r → Row w (of_op o) (of_op p) r
  result_row k at r part meant meant' e = subst (Row w (of_op o) (of_op p)) e (record { value = λ h. (k, meant, meant'); block = λ h. let no_label : ⊥ = cc in absurd no_label })

  results_meet : {n n' end end' k at : ℕ} → Named (one w) o n end k at → Named (other w) p n' end' k at → part_at w.tree end ≡ parts.Name → part_at w.tree end' ≡ parts.Name → SameResults at n n' end end'
  results_meet (there e h) (there e' h') name name' = record { so_many = sym e ∙ e'; ends = sym h ∙ h'; rows = λ r le lt. absurd (omega arith) }
  results_meet (there e h) (on part meant rest) name name' = let differ : parts.Result ≡ parts.Name = sym part ∙ ap (part_at w.tree) h ∙ name in let none : ⊥ = cc in absurd none
  results_meet (on part meant rest) (there e h) name name' = let differ : parts.Result ≡ parts.Name = sym part ∙ ap (part_at w.tree) h ∙ name' in let none : ⊥ = cc in absurd none
  results_meet {k = k} {at = at} (on part meant rest) (on part' meant' rest') name name' =
      let r = results_meet rest rest' name name' in
      record {
        so_many = r.so_many;
        ends = r.ends;
        rows = λ x le lt. elim (cases_eq at x) [
          | inl e ↦ result_row k at x part meant meant' e
          | inr differ ↦ ⊎_elim (λ before. plain_row w (of_op o) (of_op p) x (count_row w.tree at x (omega arith) before)) (λ behind. r.rows x behind lt) (cases_lt x (behind_result w.tree at))
        ];
      }

-- ---- operands and successors

module _ {W : Dialect} (s : Setting W) (o : ArenaIndex) where
  operand_rank : (k at next : ℕ) → IsOperand s o k at next → rank_at s.tree at ≡ 1
  operand_rank k at next h = ap rank h.part

  operand_rows : (k at next : ℕ) → IsOperand s o k at next → GiveNothing s.tree at next
  operand_rows k at next h r le lt = elim (cases_eq at r) [
    | inl e ↦ ap (λ x. gives (part_at s.tree x)) (sym e) ∙ ap gives h.part
    | inr differ ↦ (let behind = h.behind in index_row s.tree at r (omega arith) (omega arith))
  ]

  successor_rank : (k at next : ℕ) → IsSuccessor s o k at next → rank_at s.tree at ≡ 2
  successor_rank k at next h = ap rank h.part

  successor_rows : (k at next : ℕ) → IsSuccessor s o k at next → GiveNothing s.tree at next
  successor_rows k at next h = one_gives s.tree at next h.behind (ap gives h.part)

-- ---- the whole head

-- the heads of both operations are the rows from one row up to another
pub record HeadPair {W V : Dialect} (w : Sides W V) (o p : ArenaIndex) (at next : ℕ) : Type 0 where
  pub text : List ℕ
  pub one_named : name_of (one w) o ≡ Some text
  pub other_named : name_of (other w) p ≡ Some text
  pub results : length (definitions_of w.f (of_op o)) ≡ length (definitions_of w.g (of_op p))
  pub so_many_operands : length (operands_of w.f o) ≡ length (operands_of w.g p)
  pub operands : (k : ℕ) → k < length (operands_of w.f o) → Twice (IsOperand (one w) o) (IsOperand (other w) p) k
  pub so_many_successors : length (successors_of w.f o) ≡ length (successors_of w.g p)
  pub successors : (k : ℕ) → k < length (successors_of w.f o) → Twice (IsSuccessor (one w) o) (IsSuccessor (other w) p) k
  pub properties : properties_of (one w) o ≡ properties_of (other w) p
  pub rows : (r : ℕ) → at ≤ r → r < next → Row w (of_op o) (of_op p) r

-- the rows of both heads end at one row
pub record HeadsMeet {W V : Dialect} (w : Sides W V) (o p : ArenaIndex) (at next next' : ℕ) : Type 0 where
  pub ends : next ≡ next'
  pub pair : HeadPair w o p at next

module _ {W V : Dialect} (w : Sides W V) (o p : ArenaIndex) where
  no_properties : (n : ℕ) → 4 ≤ rank_at w.tree n → part_at w.tree n ≡ parts.Properties → ⊥
  no_properties n far e = let is : rank_at w.tree n ≡ 3 = ap rank e in absurd (omega arith)

  pub heads_meet : (at next next' : ℕ) → IsHead (one w) o at next → IsHead (other w) p at next' → 4 ≤ rank_at w.tree next → 4 ≤ rank_at w.tree next' → HeadsMeet w o p at next next'
  heads_meet at next next' h h' far far' =
      let names = results_meet w o p (named (one w) o h.results) (named (other w) p h'.results) h.part h'.part in
      let last : 3 ≤ rank_at w.tree h.successors_end = may_low (one w) parts.Properties 3 (properties_of (one w) o) h.successors_end next (omega arith) (omega arith) h.properties in
      let last' : 3 ≤ rank_at w.tree h'.successors_end = may_low (other w) parts.Properties 3 (properties_of (other w) p) h'.successors_end next' (omega arith) (omega arith) h'.properties in
      let middle : 2 ≤ rank_at w.tree h.operands_end = low (rank_at w.tree) 2 (successor_rank (one w) o) (onward h.successors) (omega arith) in
      let middle' : 2 ≤ rank_at w.tree h'.operands_end = low (rank_at w.tree) 2 (successor_rank (other w) p) (onward h'.successors) (omega arith) in
      let operands' : Onward (IsOperand (other w) p) (length (operands_of w.g p)) h'.operands_end 0 (h.name + 1) = subst (λ x. Onward (IsOperand (other w) p) (length (operands_of w.g p)) h'.operands_end 0 (x + 1)) (sym names.ends) (onward h'.operands) in
      let values = meet (rank_at w.tree) 1 (IsOperand (one w) o) (IsOperand (other w) p) (operand_rank (one w) o) (operand_rank (other w) p) (λ k x y y' s s' le le'. s.behind ∙ sym s'.behind) (onward h.operands) operands' middle middle' in
      let successors' : Onward (IsSuccessor (other w) p) (length (successors_of w.g p)) h'.successors_end 0 h.operands_end = subst (λ x. Onward (IsSuccessor (other w) p) (length (successors_of w.g p)) h'.successors_end 0 x) (sym values.ends) (onward h'.successors) in
      let blocks = meet (rank_at w.tree) 2 (IsSuccessor (one w) o) (IsSuccessor (other w) p) (successor_rank (one w) o) (successor_rank (other w) p) (λ k x y y' s s' le le'. s.behind ∙ sym s'.behind) (onward h.successors) successors' last last' in
      let texts = may_meet w parts.Properties (properties_of (one w) o) (properties_of (other w) p) h.successors_end next next' (no_properties next far) (no_properties next' far') h.properties (subst (λ x. MayStand (other w) parts.Properties (properties_of (other w) p) x next') (sym blocks.ends) h'.properties) in
      let nothing : GiveNothing w.tree h.name next = more_give w.tree h.name (h.name + 1) next (one_gives w.tree h.name (h.name + 1) refl (ap gives h.part))
      (more_give w.tree (h.name + 1) h.operands_end next (steps_give_nothing w.tree (operand_rows (one w) o) (onward h.operands))
      (more_give w.tree h.operands_end h.successors_end next (steps_give_nothing w.tree (successor_rows (one w) o) (onward h.successors))
      (may_rows (one w) parts.Properties (properties_of (one w) o) h.successors_end next refl h.properties))) in
      record {
        ends = texts.ends;
        pair = record {
          text = bytes_at w.tree h.name;
          one_named = h.named;
          other_named = h'.named ∙ ap (λ x. Some (bytes_at w.tree x)) (sym names.ends);
          results = names.so_many;
          so_many_operands = values.so_many;
          operands = λ k lt. values.each k (omega arith) lt;
          so_many_successors = blocks.so_many;
          successors = λ k lt. blocks.each k (omega arith) lt;
          properties = texts.texts;
          rows = λ r le lt. ⊎_elim (λ before. names.rows r le before) (λ behind. plain_row w (of_op o) (of_op p) r (nothing r behind lt)) (cases_lt r h.name);
        };
      }

-- an operation begins with its head, at a row of the tree
pub record Begins {W : Dialect} (s : Setting W) (at : ℕ) : Type 0 where
  pub begins : begins_operation (part_at s.tree at) ≡ true
  pub within : at < length s.tree.rows

module _ {W : Dialect} (s : Setting W) (o : ArenaIndex) where
  name_row : (n : ℕ) → part_at s.tree n ≡ parts.Name → n < length s.tree.rows
  name_row n name = is_row s.tree n (λ e. let no_result : ⊥ = cc in no_result)

  before_name : {n end k x : ℕ} → Named s o n end k x → x ≤ end
  before_name (there e e') = omega arith
  before_name (on {at = at} part meant rest) = let le = before_name rest in let lt = result_behind s.tree at in omega arith

  begins_with : {n end k x : ℕ} → Named s o n end k x → part_at s.tree end ≡ parts.Name → begins_operation (part_at s.tree x) ≡ true
  begins_with (there e e') name = ap (λ n. begins_operation (part_at s.tree n)) e' ∙ ap begins_operation name
  begins_with (on part meant rest) name = ap begins_operation part

  pub head_begins : (at next : ℕ) → IsHead s o at next → Begins s at
  head_begins at next h =
      let le = before_name (named s o h.results) in
      let lt = name_row h.name h.part in
      record { begins = begins_with (named s o h.results) h.part; within = omega arith }
