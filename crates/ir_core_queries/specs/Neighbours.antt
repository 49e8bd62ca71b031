-- What the links of a record say of where it stands, and the ends of one of the list that it has.
use Rattle.std.specs.Prelude.{◌≡◌, List, Option, IfSome}
use Rattle.std.specs.Option.{option_map}
use Rattle.ir_model.specs.declared.ids.ArenaIndex.{ArenaIndex}
use Rattle.ir_model.specs.ContextIds.{context_ids}
use Rattle.ir_model.specs.Forest.{Dialect, Entity, Forest}
use Rattle.ir_model.specs.Nesting.{IsLive}
use Rattle.ir_model.specs.Parent.{IsNext, IsParent, IsPrevious, first_of, last_of}
use Rattle.ir_base_arenas.specs.Lists.{Links, Ends}

module _ {W : Dialect} (f : Forest context_ids W) (node : ArenaIndex → Entity context_ids) where
  -- the node that is named, if one is, is live
  abbrev pub IsLiveLink : Option ArenaIndex → Type 0
  IsLiveLink link = IfSome link (λ x. IsLive f (node x))

  -- the ends name the first and the last of the list, which are live
  pub record EndsTell (list : List ArenaIndex) (ends : Ends) : Type 0 where
    pub first : ends.head ≡ first_of list
    pub first_live : IsLiveLink ends.head
    pub last : ends.tail ≡ last_of list
    pub last_live : IsLiveLink ends.tail

  -- the links name what the node stands in and what stands beside it on either side, all of which is live
  pub record LinksTell (container : ArenaIndex → Entity context_ids) (x : ArenaIndex) (links : Links) : Type 0 where
    pub parent : IsParent f (node x) (option_map container links.container)
    pub parent_live : IfSome links.container (λ b. IsLive f (container b))
    pub next : IsNext f (node x) (option_map node links.next)
    pub next_live : IsLiveLink links.next
    pub previous : IsPrevious f (node x) (option_map node links.prev)
    pub previous_live : IsLiveLink links.prev
