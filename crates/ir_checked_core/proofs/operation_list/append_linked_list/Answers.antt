use Rattle.ir_checked_core.proofs.operation_list.append_linked_list.Goals as goal

pub append_linked_list-requires-clause-may_join : goal.append_linked_list-requires-clause-may_join
append_linked_list-requires-clause-may_join g c = c.may_join.ensures.0 c.if-not-may_join.false
