use native.Mathlib.Omega.{arith}
use mathlib.Core.Bool.{true}
use mathlib.Core.Path.{refl}
use Rattle.wire_write.specs.Written.{key_given}
use Rattle.node_header.specs.declared.StepAnswer.TheVariants.{Stepped}
use Rattle.node_send.specs.declared.Request.TheVariants as request
use Rattle.image_header.specs.Image.{node_at}
use Rattle.image_node.specs.Lent.{lent_store_in}
use Rattle.calls_worker.proofs.AnswerLaws.{no_room_lem, asked, told_as_lem, refused_short}
use Rattle.calls_worker.proofs.Found.{few, row-there, row-formed, steps-node, requests_node}
use Rattle.calls_worker.proofs.told.step_at.Goals as goal

pub returns-then-answer-lt8 : goal.returns-then-answer-lt8
returns-then-answer-lt8 c =
    no_room_lem (node_at c.args.header.now) (lent_store_in c.args.stores.now (node_at c.args.header.now) (key_given c.args.name.now c.args.shard)) (key_given c.args.name.now c.args.shard) c.args.epoch c.args.peer c.args.metric c.args.request.now c.args.answer.now c.if-answer-lt8.true true c.requires.0.found.lent

pub overflow_mul-at : goal.overflow_mul-at
overflow_mul-at c =
    let w = few c.args.header.now c.args.stores.now (key_given c.args.name.now c.args.shard) c.args.at c.requires.0 in omega arith

pub overflow_add-at : goal.overflow_add-at
overflow_add-at c =
    let w = few c.args.header.now c.args.stores.now (key_given c.args.name.now c.args.shard) c.args.at c.requires.0 in omega arith

pub step-s-requires : goal.step-s-requires
step-s-requires c =
    (row-there c.args.header.now c.args.stores.now (key_given c.args.name.now c.args.shard) c.args.at c.requires.0, row-formed c.args.header.now c.args.stores.now (key_given c.args.name.now c.args.shard) c.args.at c.requires.0)

pub request_at-w-requires : goal.request_at-w-requires
request_at-w-requires c = (c.requires.0, c.requires.1, c.step-s.ensures)

pub returns-in-Refused : goal.returns-in-Refused
returns-in-Refused c =
    asked (node_at c.args.header.now) (lent_store_in c.args.stores.now (node_at c.args.header.now) (key_given c.args.name.now c.args.shard)) (key_given c.args.name.now c.args.shard) c.args.epoch c.args.peer c.args.metric c.args.request.now c.args.answer.now c.if-answer-lt8.false
    (Stepped c.step-s.result) c.request_at-w.result (steps-node c.args.header.now c.args.stores.now (key_given c.args.name.now c.args.shard) c.args.at c.requires.0 c.args.epoch c.args.peer c.step-s.result c.step-s.ensures) _ (requests_node c.args.header.now c.args.stores.now (key_given c.args.name.now c.args.shard) c.args.at c.requires.0 c.args.epoch c.args.peer c.args.metric _ _ c.request_at-w.result c.request_at-w.ensures) _ _
    (told_as_lem (Stepped c.step-s.result) c.request_at-w.result _ _ c.args.answer.now _ _ c.in-Refused.is (refused_short _ _ _ c.request_at-w.result _ c.request_at-w.ensures c.in-Refused.is, refl))

pub returns-in-Unsent : goal.returns-in-Unsent
returns-in-Unsent c =
    asked (node_at c.args.header.now) (lent_store_in c.args.stores.now (node_at c.args.header.now) (key_given c.args.name.now c.args.shard)) (key_given c.args.name.now c.args.shard) c.args.epoch c.args.peer c.args.metric c.args.request.now c.args.answer.now c.if-answer-lt8.false
    (Stepped c.step-s.result) c.request_at-w.result (steps-node c.args.header.now c.args.stores.now (key_given c.args.name.now c.args.shard) c.args.at c.requires.0 c.args.epoch c.args.peer c.step-s.result c.step-s.ensures) _ (requests_node c.args.header.now c.args.stores.now (key_given c.args.name.now c.args.shard) c.args.at c.requires.0 c.args.epoch c.args.peer c.args.metric _ _ c.request_at-w.result c.request_at-w.ensures) _ _
    (told_as_lem (Stepped c.step-s.result) c.request_at-w.result request.Unsent _ c.args.answer.now _ _ c.in-Unsent.is (c.quiet.ensures, c.put_number.ensures.1))

pub returns-in-Written : goal.returns-in-Written
returns-in-Written c =
    asked (node_at c.args.header.now) (lent_store_in c.args.stores.now (node_at c.args.header.now) (key_given c.args.name.now c.args.shard)) (key_given c.args.name.now c.args.shard) c.args.epoch c.args.peer c.args.metric c.args.request.now c.args.answer.now c.if-answer-lt8.false
    (Stepped c.step-s.result) c.request_at-w.result (steps-node c.args.header.now c.args.stores.now (key_given c.args.name.now c.args.shard) c.args.at c.requires.0 c.args.epoch c.args.peer c.step-s.result c.step-s.ensures) _ (requests_node c.args.header.now c.args.stores.now (key_given c.args.name.now c.args.shard) c.args.at c.requires.0 c.args.epoch c.args.peer c.args.metric _ _ c.request_at-w.result c.request_at-w.ensures) _ _
    (told_as_lem (Stepped c.step-s.result) c.request_at-w.result _ _ c.args.answer.now _ _ c.in-Written.is (c.sent.ensures, c.put_number-in-Written.ensures.1))
