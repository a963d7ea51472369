-- The control byte that a slave step or an order gives stands in the table, for its meaning.
-- Assumes nothing.
use Prim.Native.Nat.{ℕ}
use mathlib.Core.Path.{◌≡◌, refl, sym}
use mathlib.Core.Bool.{Bool}
use mathlib.Core.List.{List}
use native.Mathlib.Omega.{arith}
use lib.Dec.{eqb, ltb}
use borrow.Author.Tests.{eqb-true}
use Rattle.std.specs.Prelude.{Option, None, Some}
use Rattle.frame.specs.Answer.{gives, refuses}
use Rattle.frame.specs.Control.{count_refusal, counts_refusal, encode_of, decode_of}
use Rattle.frame.specs.Refusal.{frame_refusal}
use Rattle.frame.specs.declared.Meaning.{Meaning}
use Rattle.frame.specs.declared.Meaning.TheVariants.{I, Rr, Rnr, Snrm, Disc, Ua, Frmr}
use Rattle.frame.proofs.ControlBytes.{decode_byte}
use Rattle.frame.proofs.Laws.{pick_cases, pick_both, pick_second, then_zero, gives_not}
use Rattle.side.specs.Given.{Given, refused, refusing}
use Rattle.side.specs.Right.{count_wrong, side_wrong}
use Rattle.side.specs.Rule.{count_rule}
use Rattle.side.specs.Say.{status, says_held, says}
use Rattle.side.specs.Slot.{full}
use Rattle.side.specs.declared.Side.{Side}
use Rattle.frame.specs.declared.Line.{Line}
use Rattle.side.specs.declared.answer.News.{News}
use Rattle.side.specs.declared.rule.Accepted.{Accepted}
use Rattle.side.specs.declared.say.Saying.{Saying}
use Rattle.side.proofs.Keeps.{keeps as side}
use Rattle.side.proofs.Parts.{parts}
use Rattle.slave.specs.Step.{in_ndm, responds, on_heard, in_nrm, moved_in, moved, step_refusal, step_of}
use Rattle.slave.specs.declared.Mode.{Mode}
use Rattle.slave.specs.declared.Mode.TheVariants.{Ndm, Nrm}
use Rattle.slave.specs.declared.Slave.{Slave}
use Rattle.slave.proofs.Keeps.{passed, parts as slave-parts}
use Rattle.master.specs.Master.{master_wrong as master_end_wrong}
use Rattle.master.specs.Order.{may_inform, in_linked, orders_in, orders, order_refusal, order_of}
use Rattle.master.specs.declared.Mode.{Mode as MasterMode}
use Rattle.master.specs.declared.Mode.TheVariants.{Disconnecting, Connecting, Linked}
use Rattle.master.specs.declared.Master.{Master}
use Rattle.master.proofs.Keeps.{parts as master-parts}
use Rattle.layout.specs.SlaveLayout.{slave_at, slave_wrong}
use Rattle.layout.specs.MasterLayout.{master_at, master_wrong}
use Rattle.layout.specs.Control.{meaning_of, control_of}
use Rattle.bitbus.specs.SlaveCalls.{slave_step}
use Rattle.bitbus.specs.MasterCalls.{master_order}
use Rattle.bitbus.specs.Promises.{Said}

-- a call that gives values was not refused
refusing_gives : {A E : Type 0} (n : ℕ) (e : E) (g : Given A E) (v : A) → (refusing n e g).answer ≡ gives v → (n ≡ 0) × (g.answer ≡ gives v)
refusing_gives {A} {E} n e g v =
    pick_cases (λ (x : Given A E). x.answer ≡ gives v → (n ≡ 0) × (g.answer ≡ gives v)) (eqb n 0) g (refused n e)
    (λ t h. (eqb-true n 0 t, h))
    (λ t h. absurd (gives_not (sym h)))

same : {A : Type 0} (v w : A) → gives v ≡ gives w → v ≡ w
same v w e = cc

byte_known : (m : Meaning) → counts_refusal m ≡ 0 → decode_of (control_of m) ≡ gives m
unfolding control_of encode_of
byte_known m e = rw e (decode_byte m e)

-- the counts of a right side
count_right : (n : ℕ) → count_wrong n ≡ 0 → count_refusal n ≡ 0
count_right n e = rw (pick_second (ltb 7 n) 30 0 0 e (λ z. omega arith)).0

says_right : (may : Bool) (t : Side) → side_wrong t ≡ 0 → counts_refusal (says may t).meaning ≡ 0
unfolding says says_held status counts_refusal
says_right may t r =
    let ns = count_right t.ns.0 (parts t r).ns in
    let nr = count_right t.nr.0 (parts t r).nr in
    let plain = pick_both (λ (f : Meaning). counts_refusal f ≡ 0) (full t) (Rnr t.nr) (Rr t.nr) nr nr in
    let numbered : counts_refusal (I t.ns t.nr) ≡ 0 = rw (ns, nr) in
    pick_both (λ (x : Saying). counts_refusal x.meaning ≡ 0) may _ _
    (pick_both (λ (x : Saying). counts_refusal x.meaning ≡ 0) (eqb t.holds 0) _ _ plain numbered)
    plain

ndm_said : (s : Slave) (f : Meaning) → counts_refusal (in_ndm s f).line.meaning ≡ 0
unfolding in_ndm counts_refusal
ndm_said s (I ns nr) = refl
ndm_said s (Rr nr) = refl
ndm_said s (Rnr nr) = refl
ndm_said s Snrm = refl
ndm_said s Disc = refl
ndm_said s Ua = refl
ndm_said s Frmr = refl

frmr_said : counts_refusal Frmr ≡ 0
unfolding counts_refusal
frmr_said = refl

heard-said : (s : Slave) (f : Meaning) (t : Side) (k : Option Accepted) → side_wrong t ≡ 0 → counts_refusal (on_heard s f t k).line.meaning ≡ 0
unfolding responds
heard-said s f t None r = frmr_said
heard-said s f t (Some a) r = says_right _ t r

moved-said : (q : Mode) (s : Slave) (f : Meaning) (m : List ℕ) → frame_refusal f m ≡ 0 → side_wrong s.side ≡ 0 → counts_refusal (moved_in q s f m).line.meaning ≡ 0
unfolding in_nrm
moved-said Ndm s f m e r = ndm_said s f
moved-said Nrm s f m e r = heard-said s f (count_rule s.side f m).side (count_rule s.side f m).heard (side.hear s.side f m e r)

step-said : (s : Slave) (a : ℕ) (f : Meaning) (m : List ℕ) (room : ℕ) (v : Line × News) → (step_of s a f m room).answer ≡ gives v → counts_refusal v.0.meaning ≡ 0
unfolding step_of moved
step-said s a f m room v h =
    let p = refusing_gives (step_refusal s a f m room) s _ v h in
    let k = passed s a f m room p.0 in
    rw (← same _ v p.1) (moved-said s.mode s f m k.frame (slave-parts s k.right).1)

disc_said : counts_refusal Disc ≡ 0
unfolding counts_refusal
disc_said = refl

snrm_said : counts_refusal Snrm ≡ 0
unfolding counts_refusal
snrm_said = refl

orders-said : (q : MasterMode) (m : Master) (tick : ℕ) → side_wrong m.side ≡ 0 → counts_refusal (orders_in q m tick).line.meaning ≡ 0
unfolding in_linked
orders-said Disconnecting m tick r = disc_said
orders-said Connecting m tick r = snrm_said
orders-said Linked m tick r = says_right (may_inform m) m.side r

order-said : (m : Master) (tick room : ℕ) (l : Line) → (order_of m tick room).answer ≡ gives l → counts_refusal l.meaning ≡ 0
unfolding order_of orders order_refusal
order-said m tick room l h =
    let p = refusing_gives (order_refusal m room) m _ l h in
    let right = (then_zero (master_end_wrong m) _ p.0).0 in
    rw (← same _ l p.1) (orders-said m.mode m tick (master-parts m right).1)

pub said : Said
unfolding slave_step master_order
said =
    record {
      slave_step = λ b a c m room v h.
          byte_known v.0.meaning (step-said (slave_at b) a (meaning_of c) m room v (refusing_gives (slave_wrong b) b _ v h).1);
      master_order = λ b tick room l h. byte_known l.meaning (order-said (master_at b) tick room l (refusing_gives (master_wrong b) b _ l h).1);
    }
