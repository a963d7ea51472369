-- Each call from C on an end gives the numbers of its list and no other.
-- Assumes nothing.
use Prim.Native.Nat.{ℕ}
use mathlib.Core.Path.{◌≡◌}
use mathlib.Core.Logic.{◌⊎◌, inl, inr}
use mathlib.Core.List.Memᴰ.{head as here}
use mathlib.Core.List.{List, [], ◌∷◌}
use lib.Dec.{eqb}
use borrow.Author.Tests.{eqb-false}
use Rattle.frame.specs.Answer.{Among, Lists}
use Rattle.frame.proofs.Laws.{pick_cases}
use Rattle.side.specs.Given.{Given, refused, refusing}
use Rattle.slave.proofs.Numbers.{numbers as slave}
use Rattle.master.proofs.Numbers.{numbers as master}
use Rattle.layout.specs.SlaveLayout.{slave_at}
use Rattle.layout.specs.MasterLayout.{master_at}
use Rattle.layout.proofs.Every.{slave_two, master_two}
use Rattle.layout.specs.Control.{meaning_of}
use Rattle.bitbus.specs.SlaveCalls.{slave_make, slave_put, slave_take, slave_step, slave_restart, slave_clear}
use Rattle.bitbus.specs.MasterCalls.{master_make, master_put, master_take, master_order, master_response, master_silence, master_restart, master_clear}
use Rattle.bitbus.specs.Promises.{Numbers}

-- 30 of bytes that are no end, before the numbers of the call
before : {A : Type 0} {n : ℕ} (b : List ℕ) (g : Given A (List ℕ)) (ks : List ℕ) → (n ≡ 0) ⊎ (n ≡ 30) → Lists (30 ∷ ks) g.answer → Lists (30 ∷ ks) (refusing n b g).answer
before {A} {n} b g ks two l =
    pick_cases (λ (x : Given A (List ℕ)). Lists (30 ∷ ks) x.answer) (eqb n 0) g (refused n b) (λ t. l) (λ t. first (eqb-false n 0 t) two)
  where
    first : (n ≡ 0 → ⊥) → (n ≡ 0) ⊎ (n ≡ 30) → Among n (30 ∷ ks)
    first z (inl e) = absurd (z e)
    first z (inr e) = here e

pub numbers : Numbers
unfolding slave_make slave_put slave_take slave_step slave_restart slave_clear master_make master_put master_take master_order master_response master_silence master_restart master_clear
numbers =
    record {
      slave_make = λ b a. slave.make a;
      slave_put = λ b m. before b _ (10 ∷ 12 ∷ 13 ∷ []) (slave_two b) (slave.put (slave_at b) m);
      slave_take = λ b room. before b _ (14 ∷ 11 ∷ []) (slave_two b) (slave.take (slave_at b) room);
      slave_step = λ b a control m room. before b _ (11 ∷ 9 ∷ 10 ∷ 12 ∷ 19 ∷ []) (slave_two b) (slave.step (slave_at b) a (meaning_of control) m room);
      slave_restart = λ b. before b _ [] (slave_two b) (slave.restart (slave_at b));
      slave_clear = λ b. before b _ [] (slave_two b) (slave.clear (slave_at b));
      master_make = λ b a l. master.make a l;
      master_put = λ b m. before b _ (10 ∷ 12 ∷ 13 ∷ []) (master_two b) (master.put (master_at b) m);
      master_take = λ b room. before b _ (14 ∷ 11 ∷ []) (master_two b) (master.take (master_at b) room);
      master_order = λ b tick room. before b _ (17 ∷ 11 ∷ []) (master_two b) (master.order (master_at b) tick room);
      master_response = λ b tick a control m. before b _ (16 ∷ 9 ∷ 10 ∷ 12 ∷ []) (master_two b) (master.response (master_at b) a (meaning_of control) m tick);
      master_silence = λ b. before b _ (16 ∷ []) (master_two b) (master.silence (master_at b));
      master_restart = λ b. before b _ [] (master_two b) (master.restart (master_at b));
      master_clear = λ b. before b _ [] (master_two b) (master.clear (master_at b));
    }
