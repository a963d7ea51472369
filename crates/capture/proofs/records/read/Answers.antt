-- `capture::records::read` meets its contract.
use Rattle.std.proofs.Common.{rules}
use Rattle.frame.specs.Answer.{gives, refuses, number_of}
use Rattle.capture.proofs.Forms.{at_inside, at_two, at_framed}
use Rattle.capture.proofs.records.read.Goals as goal

pub slice_bounds-body-count : goal.slice_bounds-body-count
slice_bounds-body-count c = let h = c.in_ok-head.ensures in (at_inside c.args.capture.now c.args.at c.if-capture-at.false _ _ h.refusal h.head).0

pub slice_bounds-body-start : goal.slice_bounds-body-start
slice_bounds-body-start c = let h = c.in_ok-head.ensures in (at_inside c.args.capture.now c.args.at c.if-capture-at.false _ _ h.refusal h.head).0

pub slice_bounds-body-end : goal.slice_bounds-body-end
slice_bounds-body-end c = let h = c.in_ok-head.ensures in (at_inside c.args.capture.now c.args.at c.if-capture-at.false _ _ h.refusal h.head).1

pub judge-requires : goal.judge-requires
judge-requires c = let h = c.in_ok-head.ensures in at_two c.args.capture.now c.args.at c.if-capture-at.false _ _ h.refusal h.head (λ e. cc (c.in-Order.is, e))

pub judge-requires-in-Response : goal.judge-requires-in-Response
judge-requires-in-Response c = let h = c.in_ok-head.ensures in at_two c.args.capture.now c.args.at c.if-capture-at.false _ _ h.refusal h.head (λ e. cc (c.in-Response.is, e))

pub returns-in_err-judge-in-Order : goal.returns-in_err-judge-in-Order
returns-in_err-judge-in-Order c =
    let h = c.in_ok-head.ensures in
    let e = at_framed c.args.capture.now c.args.at c.if-capture-at.false _ _ h.refusal h.head (λ e. cc (c.in-Order.is, e)) (refuses (number_of c.in_err-judge-in-Order.field-0.0)) c.in_err-judge-in-Order.ensures in
    search (rules, e)

pub returns-in_err-judge-in-Response : goal.returns-in_err-judge-in-Response
returns-in_err-judge-in-Response c =
    let h = c.in_ok-head.ensures in
    let e = at_framed c.args.capture.now c.args.at c.if-capture-at.false _ _ h.refusal h.head (λ e. cc (c.in-Response.is, e)) (refuses (number_of c.in_err-judge-in-Response.field-0.0)) c.in_err-judge-in-Response.ensures in
    search (rules, e)

pub returns-in_ok-judge-in-Order : goal.returns-in_ok-judge-in-Order
returns-in_ok-judge-in-Order c =
    let h = c.in_ok-head.ensures in
    rw c.in-Order.is at (at_framed c.args.capture.now c.args.at c.if-capture-at.false _ _ h.refusal h.head (λ e. cc (c.in-Order.is, e)) (gives c.in_ok-judge-in-Order.field-0) c.in_ok-judge-in-Order.ensures)

pub returns-in_ok-judge-in-Response : goal.returns-in_ok-judge-in-Response
returns-in_ok-judge-in-Response c =
    let h = c.in_ok-head.ensures in
    rw c.in-Response.is at (at_framed c.args.capture.now c.args.at c.if-capture-at.false _ _ h.refusal h.head (λ e. cc (c.in-Response.is, e)) (gives c.in_ok-judge-in-Response.field-0) c.in_ok-judge-in-Response.ensures)
