-- Zero insertion and removal: each undoes the other, no six ones go out, and how many zeros are inserted.
-- Assumes nothing.
use Prim.Native.Nat.{ℕ, zero, suc, ◌+◌, ◌*◌, ◌≤◌, ◌<◌}
use mathlib.Core.Path.{◌≡◌, ◌∙◌, refl, sym, ap}
use mathlib.Core.Bool.{Bool, true, false}
use mathlib.Core.List.{List, [], ◌∷◌, ◌++◌, append_assoc}
use native.Mathlib.Omega.{arith}
use native.Mathlib.Numerals.{add-one}
use lib.Dec.{eqb, lit<}
use lib.ListN.{length, replicate}
use borrow.Author.Tests.{ne_eqb}
use Rattle.frame.specs.Pick.{pick}
use Rattle.bits.specs.Bits.{num}
use Rattle.bits.specs.Insert.{sent, after, insert, zeros, trail, next, remove, ending}
use Rattle.bits.specs.Insertion.{Never, NotAtEnd, RemoveAfterInsert, InsertAfterRemove, NoSixOnes, ZerosCounted}

-- ---- a run of ones is below five after each bit, and what goes out for one bit

pub after_small : (r : ℕ) (b : Bool) → r < 5 → after r b < 5
after_small r false h = lit< tt
after_small zero true h = lit< tt
after_small (suc zero) true h = lit< tt
after_small (suc (suc zero)) true h = lit< tt
after_small (suc (suc (suc zero))) true h = lit< tt
after_small (suc (suc (suc (suc zero)))) true h = lit< tt
after_small (suc (suc (suc (suc (suc r))))) true h = absurd (omega arith)

pub trail_small : (r : ℕ) (x : List Bool) → r < 5 → trail r x < 5
unfolding trail
trail_small r [] h = h
trail_small r (b ∷ bs) h = trail_small (after r b) bs (after_small r b h)

-- ---- bits in pieces

pub insert-append : (r : ℕ) (x y : List Bool) → insert r (x ++ y) ≡ insert r x ++ insert (trail r x) y
unfolding insert trail
insert-append r [] y = refl
insert-append r (b ∷ bs) y = ap (λ (l : List Bool). sent r b ++ l) (insert-append (after r b) bs y) ∙ sym (append_assoc (sent r b) _ _)

pub trail-append : (r : ℕ) (x y : List Bool) → trail r (x ++ y) ≡ trail (trail r x) y
unfolding trail
trail-append r [] y = refl
trail-append r (b ∷ bs) y = trail-append (after r b) bs y

-- ---- each undoes the other

pub remove-insert : (r : ℕ) → r < 5 → (x : List Bool) → remove r (insert r x) ≡ x
unfolding insert remove
remove-insert r h [] = refl
remove-insert r h (false ∷ bs) = rw (ne_eqb r 5 (λ e. omega arith)) (ap (λ (l : List Bool). false ∷ l) (remove-insert 0 (lit< tt) bs))
remove-insert zero h (true ∷ bs) = ap (λ (l : List Bool). true ∷ l) (remove-insert 1 (lit< tt) bs)
remove-insert (suc zero) h (true ∷ bs) = ap (λ (l : List Bool). true ∷ l) (remove-insert 2 (lit< tt) bs)
remove-insert (suc (suc zero)) h (true ∷ bs) = ap (λ (l : List Bool). true ∷ l) (remove-insert 3 (lit< tt) bs)
remove-insert (suc (suc (suc zero))) h (true ∷ bs) = ap (λ (l : List Bool). true ∷ l) (remove-insert 4 (lit< tt) bs)
remove-insert (suc (suc (suc (suc zero)))) h (true ∷ bs) = ap (λ (l : List Bool). true ∷ l) (remove-insert 0 (lit< tt) bs)
remove-insert (suc (suc (suc (suc (suc r))))) h (true ∷ bs) = absurd (omega arith)

-- after a run of r ones, six ones never stand in a row
abbrev pub Quiet : ℕ → List Bool → Type 0
Quiet r [] = Unit {0}
Quiet r (false ∷ bs) = Quiet 0 bs
Quiet r (true ∷ bs) = (r < 5) × Quiet (suc r) bs

pub insert-remove : (r : ℕ) → r < 5 → (x : List Bool) → Quiet r x → (ending r x ≡ 5 → ⊥) → insert r (remove r x) ≡ x
unfolding insert remove ending
insert-remove r h [] q e = refl
insert-remove zero h (false ∷ bs) q e = ap (λ (l : List Bool). false ∷ l) (insert-remove 0 (lit< tt) bs q e)
insert-remove (suc zero) h (false ∷ bs) q e = ap (λ (l : List Bool). false ∷ l) (insert-remove 0 (lit< tt) bs q e)
insert-remove (suc (suc zero)) h (false ∷ bs) q e = ap (λ (l : List Bool). false ∷ l) (insert-remove 0 (lit< tt) bs q e)
insert-remove (suc (suc (suc zero))) h (false ∷ bs) q e = ap (λ (l : List Bool). false ∷ l) (insert-remove 0 (lit< tt) bs q e)
insert-remove (suc (suc (suc (suc zero)))) h (false ∷ bs) q e = ap (λ (l : List Bool). false ∷ l) (insert-remove 0 (lit< tt) bs q e)
insert-remove (suc (suc (suc (suc (suc r))))) h (false ∷ bs) q e = absurd (omega arith)
insert-remove zero h (true ∷ bs) q e = ap (λ (l : List Bool). true ∷ l) (insert-remove 1 (lit< tt) bs q.1 e)
insert-remove (suc zero) h (true ∷ bs) q e = ap (λ (l : List Bool). true ∷ l) (insert-remove 2 (lit< tt) bs q.1 e)
insert-remove (suc (suc zero)) h (true ∷ bs) q e = ap (λ (l : List Bool). true ∷ l) (insert-remove 3 (lit< tt) bs q.1 e)
insert-remove (suc (suc (suc zero))) h (true ∷ bs) q e = ap (λ (l : List Bool). true ∷ l) (insert-remove 4 (lit< tt) bs q.1 e)
insert-remove (suc (suc (suc (suc zero)))) h (true ∷ []) q e = absurd (e refl)
insert-remove (suc (suc (suc (suc zero)))) h (true ∷ false ∷ bs) q e = ap (λ (l : List Bool). true ∷ false ∷ l) (insert-remove 0 (lit< tt) bs q.1 e)
insert-remove (suc (suc (suc (suc zero)))) h (true ∷ true ∷ bs) q e = let z = q.1.0 in absurd (omega arith)
insert-remove (suc (suc (suc (suc (suc r))))) h (true ∷ bs) q e = absurd (omega arith)

-- ---- no six ones

pub quiet_insert : (r : ℕ) → r < 5 → (x : List Bool) → Quiet r (insert r x)
unfolding insert
quiet_insert r h [] = tt
quiet_insert r h (false ∷ bs) = quiet_insert 0 (lit< tt) bs
quiet_insert zero h (true ∷ bs) = (h, quiet_insert 1 (lit< tt) bs)
quiet_insert (suc zero) h (true ∷ bs) = (h, quiet_insert 2 (lit< tt) bs)
quiet_insert (suc (suc zero)) h (true ∷ bs) = (h, quiet_insert 3 (lit< tt) bs)
quiet_insert (suc (suc (suc zero))) h (true ∷ bs) = (h, quiet_insert 4 (lit< tt) bs)
quiet_insert (suc (suc (suc (suc zero)))) h (true ∷ bs) = (h, quiet_insert 0 (lit< tt) bs)
quiet_insert (suc (suc (suc (suc (suc r))))) h (true ∷ bs) = absurd (omega arith)

-- the run counted by removal never stands at five after an insertion
pub ending-insert : (r : ℕ) → r < 5 → (x : List Bool) → ending r (insert r x) < 5
unfolding insert ending
ending-insert r h [] = h
ending-insert r h (false ∷ bs) = rw (ne_eqb r 5 (λ e. omega arith)) (ending-insert 0 (lit< tt) bs)
ending-insert zero h (true ∷ bs) = ending-insert 1 (lit< tt) bs
ending-insert (suc zero) h (true ∷ bs) = ending-insert 2 (lit< tt) bs
ending-insert (suc (suc zero)) h (true ∷ bs) = ending-insert 3 (lit< tt) bs
ending-insert (suc (suc (suc zero))) h (true ∷ bs) = ending-insert 4 (lit< tt) bs
ending-insert (suc (suc (suc (suc zero)))) h (true ∷ bs) = ending-insert 0 (lit< tt) bs
ending-insert (suc (suc (suc (suc (suc r))))) h (true ∷ bs) = absurd (omega arith)

-- in quiet bits no six ones stand in a row
quiet_never : (r : ℕ) (p q : List Bool) → Quiet r (p ++ (replicate 6 true ++ q)) → ⊥
quiet_never r [] q h = let z = h.1.1.1.1.1.0 in omega arith
quiet_never r (false ∷ p) q h = quiet_never 0 p q h
quiet_never r (true ∷ p) q h = quiet_never (suc r) p q h.1

-- bits after a run of ones, in which no six stand in a row with it, are quiet
pub never_quiet : (r : ℕ) → r ≤ 5 → (x : List Bool) → Never 6 (replicate r true ++ x) → Quiet r x
never_quiet r h [] n = tt
never_quiet r h (false ∷ bs) n =
    never_quiet 0 (omega arith) bs
    (λ p q e. n (replicate r true ++ (false ∷ p)) q (ap (λ (l : List Bool). replicate r true ++ (false ∷ l)) e ∙ sym (append_assoc (replicate r true) (false ∷ p) (replicate 6 true ++ q))))
never_quiet zero h (true ∷ bs) n = (lit< tt, never_quiet 1 (omega arith) bs n)
never_quiet (suc zero) h (true ∷ bs) n = (lit< tt, never_quiet 2 (omega arith) bs n)
never_quiet (suc (suc zero)) h (true ∷ bs) n = (lit< tt, never_quiet 3 (omega arith) bs n)
never_quiet (suc (suc (suc zero))) h (true ∷ bs) n = (lit< tt, never_quiet 4 (omega arith) bs n)
never_quiet (suc (suc (suc (suc zero)))) h (true ∷ bs) n = (lit< tt, never_quiet 5 (omega arith) bs n)
never_quiet (suc (suc (suc (suc (suc zero))))) h (true ∷ bs) n = absurd (n [] bs refl)
never_quiet (suc (suc (suc (suc (suc (suc r)))))) h (true ∷ bs) n = absurd (omega arith)

next-zero : (r : ℕ) → next r false ≡ 0
next-zero r = go (eqb r 5)
  where
    go : (t : Bool) → ◌≡◌ {A = ℕ} (pick t 0 0) 0
    go true = refl
    go false = refl

next_one : (r : ℕ) → r < 5 → next r true ≡ suc r
next_one r h = rw (ne_eqb r 5 (λ e. omega arith), add-one r)

-- quiet bits end in five ones exactly where the run counted by removal ends at five
quiet_five : (r : ℕ) (p : List Bool) → Quiet r (p ++ replicate 5 true) → ending r (p ++ replicate 5 true) ≡ 5
unfolding ending
quiet_five zero [] h = refl
quiet_five (suc r) [] h = let z = h.1.1.1.1.0 in absurd (omega arith)
quiet_five r (false ∷ p) h = ap (λ (k : ℕ). ending k (p ++ replicate 5 true)) (next-zero r) ∙ quiet_five 0 p h
quiet_five r (true ∷ p) h = ap (λ (k : ℕ). ending k (p ++ replicate 5 true)) (next_one r h.0) ∙ quiet_five (suc r) p h.1

five_quiet : (r : ℕ) → r ≤ 5 → (x : List Bool) → Quiet r x → ending r x ≡ 5 → NotAtEnd 5 (replicate r true ++ x) → ⊥
unfolding ending
five_quiet r h [] q e n = n [] (ap (λ (k : ℕ). replicate k true ++ []) e)
five_quiet r h (false ∷ bs) q e n =
    five_quiet 0 (omega arith) bs q (sym (ap (λ (k : ℕ). ending k bs) (next-zero r)) ∙ e)
    (λ p d. n (replicate r true ++ (false ∷ p)) (ap (λ (l : List Bool). replicate r true ++ (false ∷ l)) d ∙ sym (append_assoc (replicate r true) (false ∷ p) (replicate 5 true))))
five_quiet zero h (true ∷ bs) q e n = five_quiet 1 (omega arith) bs q.1 e n
five_quiet (suc zero) h (true ∷ bs) q e n = five_quiet 2 (omega arith) bs q.1 e n
five_quiet (suc (suc zero)) h (true ∷ bs) q e n = five_quiet 3 (omega arith) bs q.1 e n
five_quiet (suc (suc (suc zero))) h (true ∷ bs) q e n = five_quiet 4 (omega arith) bs q.1 e n
five_quiet (suc (suc (suc (suc zero)))) h (true ∷ bs) q e n = five_quiet 5 (omega arith) bs q.1 e n
five_quiet (suc (suc (suc (suc (suc r))))) h (true ∷ bs) q e n = let z = q.0 in omega arith

-- ---- how many zeros

pub length-insert : (r : ℕ) (x : List Bool) → length (insert r x) ≡ length x + zeros r x
unfolding insert zeros
length-insert r [] = refl
length-insert r (false ∷ bs) = let e = length-insert 0 bs in omega arith
length-insert r (true ∷ bs) = one (eqb r 4) (λ k. length-insert k bs)
  where
    one : (t : Bool) → ((k : ℕ) → length (insert k bs) ≡ length bs + zeros k bs)
        → length ((true ∷ pick t (false ∷ []) []) ++ insert (pick t 0 (r + 1)) bs) ≡ length (true ∷ bs) + (num t + zeros (pick t 0 (r + 1)) bs)
    one true e = let e0 = e 0 in omega arith
    one false e = let e1 = e (r + 1) in omega arith

pub zeros_few : (r : ℕ) → r < 5 → (x : List Bool) → zeros r x * 5 ≤ length x + r
unfolding zeros
zeros_few r h [] = omega arith
zeros_few r h (false ∷ bs) = let e = zeros_few 0 (lit< tt) bs in omega arith
zeros_few zero h (true ∷ bs) = let e = zeros_few 1 (lit< tt) bs in omega arith
zeros_few (suc zero) h (true ∷ bs) = let e = zeros_few 2 (lit< tt) bs in omega arith
zeros_few (suc (suc zero)) h (true ∷ bs) = let e = zeros_few 3 (lit< tt) bs in omega arith
zeros_few (suc (suc (suc zero))) h (true ∷ bs) = let e = zeros_few 4 (lit< tt) bs in omega arith
zeros_few (suc (suc (suc (suc zero)))) h (true ∷ bs) = let e = zeros_few 0 (lit< tt) bs in omega arith
zeros_few (suc (suc (suc (suc (suc r))))) h (true ∷ bs) = absurd (omega arith)

-- ---- the promises

pub remove-after-insert : RemoveAfterInsert
remove-after-insert = remove-insert 0 (lit< tt)

pub insert-after-remove : InsertAfterRemove
insert-after-remove x n e =
    let q = never_quiet 0 (omega arith) x n in
    insert-remove 0 (lit< tt) x q (λ f. five_quiet 0 (omega arith) x q f e)

pub no_six_ones : NoSixOnes
no_six_ones x =
    let q = quiet_insert 0 (lit< tt) x in
    (λ p s e. quiet_never 0 p s (rw e at q), λ p e. let z = quiet_five 0 p (rw e at q) in let y = rw e at (ending-insert 0 (lit< tt) x) in omega arith)

pub zeros-counted : ZerosCounted
zeros-counted x = (length-insert 0 x, let e = zeros_few 0 (lit< tt) x in omega arith)
