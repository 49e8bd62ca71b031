-- What is told of a link is told of the handle that it gives.
use Rattle.std.proofs.Common.{◌≡◌, Option, Some, None, IfSome, sym, subst}
use Rattle.std.specs.Option.{option_map}
use Rattle.ir_model.specs.declared.ids.ArenaIndex.{ArenaIndex}
use Rattle.ir_model.specs.ContextIds.{context_ids}
use Rattle.ir_model.specs.Forest.{Dialect, Entity, Forest}
use Rattle.ir_model.specs.Parent.{IsParent}
use Rattle.ir_base_arenas.specs.declared.ptr.Ptr.{Ptr}

pub told-of : {T E : Type 0} (node : ArenaIndex → E) (P : Option E → Type 0) (handle : Option (Ptr T)) (link : Option ArenaIndex) → option_map (λ p. p.index) handle ≡ link → P (option_map node link) → P (option_map (λ p. node p.index) handle)
told-of node P None link e h = subst (λ o. P (option_map node o)) (sym e) h
told-of node P (Some p) link e h = subst (λ o. P (option_map node o)) (sym e) h

pub live-of : {T : Type 0} (P : ArenaIndex → Type 0) (handle : Option (Ptr T)) (link : Option ArenaIndex) → option_map (λ p. p.index) handle ≡ link → IfSome link P → IfSome handle (λ p. P p.index)
live-of P None link e h = tt
live-of P (Some p) link e h = subst (λ o. IfSome o P) (sym e) h

-- a parent that is told by a handle is told by its index
pub plain-of : {T : Type 0} {W : Dialect} (f : Forest context_ids W) (node : ArenaIndex → Entity context_ids) (x : Entity context_ids) (handle : Option (Ptr T)) → IsParent f x (option_map (λ p. node p.index) handle) → IsParent f x (option_map node (option_map (λ p. p.index) handle))
plain-of f node x None h = h
plain-of f node x (Some p) h = h
