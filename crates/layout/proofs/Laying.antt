-- The lengths of the parts of an end, and what lies in the bytes that both ends have.
-- Assumes nothing.
use Prim.Native.Nat.{ℕ, zero, suc, ◌+◌, ◌≤◌, ◌<◌}
use mathlib.Core.Path.{◌≡◌, refl, ◌∙◌}
use mathlib.Core.List.{List, ◌++◌}
use native.Mathlib.Omega.{arith}
use lib.ListN.{length, take, drop, length-append}
use Rattle.std.proofs.lemmas.List.{get_or-take, take-take, drop-take}
use Rattle.side.specs.declared.Side.{Side}
use Rattle.master.specs.declared.Master.{Master}
use Rattle.layout.specs.Layout.{number_at, mark_at, marks_wrong, side_at, side_head, side_bytes}
use Rattle.layout.specs.MasterLayout.{master_tail}

-- the lengths of the parts of an end
pub head_length : (s : Side) → length (side_head s) ≡ 20
unfolding side_head
head_length s = refl

pub side_length : (s : Side) → length s.held ≡ 253 → length s.incoming ≡ 253 → length (side_bytes s) ≡ 526
unfolding side_bytes
side_length s held incoming =
    length-append (side_head s) (s.held ++ s.incoming)
    ∙ rw (head_length s, length-append s.held s.incoming, held, incoming)

pub tail_length : (m : Master) → length (master_tail m) ≡ 10
unfolding master_tail
tail_length m = refl

-- a number, the marks and what both ends hold lie in the first 528 bytes
number_in : (k n : ℕ) (b : List ℕ) (at : ℕ) → at + k ≤ n → number_at k (take n b) at ≡ number_at k b at
number_in zero n b at h = refl
number_in (suc k) n b at h = rw (get_or-take n b at 0 (omega arith), number_in k n b (at + 1) (omega arith))

slot_in : (at : ℕ) (b : List ℕ) (m : ℕ) → 253 ≤ m → take 253 (drop at (take (at + m) b)) ≡ take 253 (drop at b)
slot_in at b m h = rw (drop-take at m b, take-take 253 m (drop at b) h)

mark_in : (n : ℕ) (b : List ℕ) (at : ℕ) → at < n → mark_at (take n b) at ≡ mark_at b at
mark_in n b at h = rw (get_or-take n b at 0 h)

pub marks_in : (b : List ℕ) → marks_wrong (take 528 b) ≡ marks_wrong b
unfolding marks_wrong
marks_in b = rw (get_or-take 528 b 4 0 (omega arith), get_or-take 528 b 5 0 (omega arith))

pub side_in : (b : List ℕ) → side_at (take 528 b) ≡ side_at b
unfolding side_at
side_in b =
    λ i. record {
      ns = record { 0 = get_or-take 528 b 2 0 (omega arith) i };
      nr = record { 0 = get_or-take 528 b 3 0 (omega arith) i };
      held = slot_in 22 b 506 (omega arith) i;
      holds = number_in 8 528 b 6 (omega arith) i;
      sent = mark_in 528 b 4 (omega arith) i;
      incoming = slot_in 275 b 253 (omega arith) i;
      waits = number_in 8 528 b 14 (omega arith) i;
      doubt = mark_in 528 b 5 (omega arith) i;
    }
