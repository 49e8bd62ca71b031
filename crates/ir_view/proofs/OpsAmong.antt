-- The operations among entities.
use Rattle.std.proofs.Common.{All, List, [], ◌∷◌}
use Rattle.std.specs.List.{filter_map}
use Rattle.std.proofs.lemmas.List.Elements.{All-nil, All-cons, All-head, All-tail}
use Rattle.ir_model.specs.ContextIds.{context_ids}
use Rattle.ir_model.specs.Forest.{Entity, an_op, a_block, a_region}
use Rattle.ir_view.specs.Operations.{op_of}

-- what holds of all entities holds of the operations among them
pub ops-all : (P : Entity context_ids → Type 0) (es : List (Entity context_ids)) → All P es → All (λ o. P (an_op o)) (filter_map op_of es)
ops-all P [] h = All-nil (λ o. P (an_op o))
ops-all P (an_op o ∷ es) h = All-cons (λ x. P (an_op x)) o (filter_map op_of es) (All-head P (an_op o) es h) (ops-all P es (All-tail P (an_op o) es h))
ops-all P (a_block b ∷ es) h = ops-all P es (All-tail P (a_block b) es h)
ops-all P (a_region r ∷ es) h = ops-all P es (All-tail P (a_region r) es h)
