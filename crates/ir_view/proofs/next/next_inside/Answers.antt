use Rattle.ir_view.proofs.next.next_inside.Goals as goal

pub returns-in-PostOrder-clause-next : goal.returns-in-PostOrder-clause-next
returns-in-PostOrder-clause-next g c = rw c.in-PostOrder.is c.next_in_post_order.ensures.next

pub returns-in-Preorder-clause-next : goal.returns-in-Preorder-clause-next
returns-in-Preorder-clause-next g c = rw c.in-Preorder.is c.next_in_preorder.ensures.next
