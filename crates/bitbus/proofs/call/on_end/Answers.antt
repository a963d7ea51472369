-- `bitbus::call::on_end` meets its contract.
use mathlib.Core.Path.{◌≡◌, refl}
use borrow.Author.Rules.{rules}
use Rattle.bitbus.proofs.call.on_end.Goals as goal

pub returns-in_err-value : goal.returns-in_err-value
returns-in_err-value g c = λ call laid h.
    let given = h _ _ _ (record { end = _; is = c.from_bytes-end.ensures; lent = _; lends = refl; after_end = _; after_lent = _; met = c.call.ensures; becomes = refl; leaves = refl }) in
    let right : g.E.InBytes.bytes_wrong c.args.bytes.now ≡ 0 = search rules in
    (rw (← given.0, right, c.in_err-value.was) (search rules), rw right given.1)

pub returns : goal.returns
returns g c = λ call laid h.
    let given = h _ _ _ (record { end = _; is = c.from_bytes-end.ensures; lent = _; lends = refl; after_end = _; after_lent = _; met = c.call.ensures; becomes = refl; leaves = refl }) in
    let right : g.E.InBytes.bytes_wrong c.args.bytes.now ≡ 0 = search rules in
    (rw (← given.0, right, c.in_ok-value.was, c.to_bytes.ensures), rw right given.1)
