-- What the handles of types of one kind, or with one interface, show: a place in the list of types.
use Rattle.std.specs.Prelude.{ℕ}
use Rattle.ir_view.specs.declared.typed_handle.TypedHandle.{TypedHandle}
use Rattle.ir_view.specs.declared.interface_handle.TypeInterfaceHandle.{TypeInterfaceHandle}

-- the place of a type of one kind
abbrev pub typed_place : {T D : Type 0} → TypedHandle T D → ℕ
typed_place h = h.handle.place

-- the place of a type with an interface
abbrev pub interface_place : {I D : Type 0} → TypeInterfaceHandle I D → ℕ
interface_place h = h.handle.place
