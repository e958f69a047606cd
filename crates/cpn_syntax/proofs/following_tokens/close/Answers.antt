-- Each form is completed, or goes on, as its own function says.
use Rattle.cpn_syntax.proofs.following_tokens.close.Goals as goal

pub returns-in-Behind : goal.returns-in-Behind
returns-in-Behind c = rw c.in-Behind.is (record { closed = c.end_operand.ensures.closed _; stops = c.end_operand.ensures.stops _ })

pub returns-in-Front : goal.returns-in-Front
returns-in-Front c = rw c.in-Front.is (record { closed = c.end_prefix.ensures.closed _; stops = c.end_prefix.ensures.stops _ })

pub returns-in-Terms : goal.returns-in-Terms
returns-in-Terms c = rw c.in-Terms.is (record { closed = c.end_sum.ensures.closed _; stops = c.end_sum.ensures.stops _ })

pub returns-in-Condition : goal.returns-in-Condition
returns-in-Condition c = rw c.in-Condition.is c.take_then.ensures

pub returns-in-Consequence : goal.returns-in-Consequence
returns-in-Consequence c = rw c.in-Consequence.is c.take_else.ensures

pub returns-in-Alternative : goal.returns-in-Alternative
returns-in-Alternative c = rw c.in-Alternative.is (record { closed = c.end_if.ensures.closed _; stops = c.end_if.ensures.stops _ })

pub returns-in-Subject : goal.returns-in-Subject
returns-in-Subject c = rw c.in-Subject.is c.take_of.ensures

pub returns-in-Arm : goal.returns-in-Arm
returns-in-Arm c = rw c.in-Arm.is c.close_arm.ensures

pub returns-in-Fold : goal.returns-in-Fold
returns-in-Fold c = rw c.in-Fold.is c.close_fold.ensures

pub returns-in-Group : goal.returns-in-Group
returns-in-Group c = rw c.in-Group.is c.close_group.ensures

pub returns-in-Items : goal.returns-in-Items
returns-in-Items c = rw c.in-Items.is c.close_items.ensures

pub returns-in-Arguments : goal.returns-in-Arguments
returns-in-Arguments c = rw c.in-Arguments.is c.close_call.ensures

pub returns-in-Local : goal.returns-in-Local
returns-in-Local c = rw c.in-Local.is c.close_local.ensures

pub returns-in-Body : goal.returns-in-Body
returns-in-Body c = rw c.in-Body.is c.take_end.ensures
