-- Two fresh ends of one address stay right, and keep address and limit, in every run.
-- Assumes nothing.
use Prim.Native.Nat.{ℕ}
use mathlib.Core.Path.{◌≡◌, sym, ◌∙◌}
use mathlib.Core.List.{List, [], ◌∷◌}
use lib.ListN.{length}
use Rattle.frame.specs.Refusal.{address_refusal}
use Rattle.frame.proofs.Laws.{pick_both, then_zero}
use Rattle.slave.specs.Slave as slave
use Rattle.slave.proofs.Keeps as slave-keeps
use Rattle.master.specs.Master as master
use Rattle.master.proofs.Keeps as master-keeps
use Rattle.link.specs.Runs.{OnLine, quiet, asks, answers, World, Event, master_put, slave_put, master_take, slave_take, master_clear, slave_clear, order, arrives, hears as heard, lost, foreign, overhears, silence, bears, arrive, hear, made, step, run}
use Rattle.link.specs.Through.{AlwaysComesThrough}
use Rattle.link.proofs.Worlds.{kept}
use Rattle.link.proofs.Slots.{sized_run}
use Rattle.link.proofs.Made.{made_arrays}
use Rattle.link.proofs.Through.{comes_through}

abbrev Right : World → Type 0
Right w = (master.master_wrong w.master ≡ 0) × (slave.slave_wrong w.slave ≡ 0)

right : (w : World) (e : Event) → master.master_wrong w.master ≡ 0 → slave.slave_wrong w.slave ≡ 0 → Right (step w e)
right w (master_put k) p q = ((master-keeps.keeps).put w.master k p, q)
right w (slave_put k) p q = (p, (slave-keeps.keeps).put w.slave k q)
right w (master_take out) p q = ((master-keeps.keeps).take w.master (length out) p, q)
right w (slave_take out) p q = (p, (slave-keeps.keeps).take w.slave (length out) q)
right w master_clear p q = ((master-keeps.keeps).clear w.master p, q)
right w slave_clear p q = (p, (slave-keeps.keeps).clear w.slave q)
right w (order tick out) p q = ((master-keeps.keeps).order w.master tick (length out) p, q)
right w (arrives out) p q = go w.line
  where
    go : (l : OnLine) → Right (arrive w l out)
    go quiet = (p, q)
    go (asks c) = (p, (slave-keeps.keeps).step w.slave c.address c.meaning c.information (length out) q)
    go (answers c) = (p, q)
right w (heard tick) p q = go w.line
  where
    go : (l : OnLine) → Right (hear w l tick)
    go quiet = (p, q)
    go (asks c) = (p, q)
    go (answers c) = ((master-keeps.keeps).response w.master c.address c.meaning c.information tick p, q)
right w lost p q = (p, q)
right w (foreign n f k tick) p q = pick_both Right (bears w.master.address n) _ _ (p, q) ((master-keeps.keeps).response w.master n f k tick p, q)
right w (overhears n f k out) p q = pick_both Right (bears w.slave.address n) _ _ (p, q) (p, (slave-keeps.keeps).step w.slave n f k (length out) q)
right w silence p q = ((master-keeps.keeps).silence w.master p, q)

module _ (a l : ℕ) where
  record Fit (w : World) : Type 0 where
    master : master.master_wrong w.master ≡ 0
    slave : slave.slave_wrong w.slave ≡ 0
    address : w.master.address ≡ a
    own : w.slave.address ≡ a
    limit : w.master.limit ≡ l

  fit : (w : World) (e : Event) → Fit w → Fit (step w e)
  fit w e p =
      let k = kept w e in
      let r = right w e p.master p.slave in
      record {
        master = r.0;
        slave = r.1;
        address = k.master.address ∙ p.address;
        own = k.slave ∙ p.own;
        limit = k.master.limit ∙ p.limit;
      }

  fit_run : (w : World) (es : List Event) → Fit w → Fit (run w es)
  fit_run w [] p = p
  fit_run w (e ∷ es) p = fit_run (step w e) es (fit w e p)

  fit_made : master.make_refusal a l ≡ 0 → Fit (made a l a)
  unfolding master.make_of slave.make_of master.make_refusal
  fit_made z =
      let address = (then_zero (address_refusal a) _ z).0 in
      record {
        master = (master-keeps.keeps).make a l z;
        slave = (slave-keeps.keeps).make a address;
        address = rw z;
        own = rw address;
        limit = rw z;
      }

pub always_comes_through : AlwaysComesThrough
always_comes_through a l z es idle tick tick' out out' large large' young =
    let w = run (made a l a) es in
    let p = fit_run a l (made a l a) es (fit_made a l z) in
    comes_through w (sized_run (made a l a) es (made_arrays a l a)) p.master p.slave (p.own ∙ sym p.address) idle tick tick' out out' large large'
    (rw p.limit young)
