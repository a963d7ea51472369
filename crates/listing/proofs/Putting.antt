-- Laws of putting text: one text after another is one text.
-- Assumes nothing.
use Prim.Native.Nat.{ℕ, suc, ◌+◌, ◌-◌, ◌/◌, ◌%◌, ◌≤◌, ◌<◌}
use mathlib.Core.Path.{◌≡◌, refl, sym, ◌∙◌, ap}
use mathlib.Core.List.{List, [], ◌∷◌, ◌++◌, append_assoc}
use native.Mathlib.Omega.{arith}
use lib.ListN.{length, set, take, drop, length-append, take-append-drop, drop_of_length-le}
use lib.Seq.{sets, sets-eq, length-sets, length-take-le, drop-drop}
use Rattle.listing.specs.Decimal.{decimal}
use Rattle.listing.specs.declared.text.Text.{Text}
use Rattle.listing.specs.Put.{Put, Puts}
use borrow.Rule.Slice.PartMut.{put_mid}
use Rattle.std.proofs.Common.{min}
use native.Mathlib.Decide.{dec_lt}
use Rattle.std.proofs.lemmas.List.{set_past}
use Rattle.listing.proofs.Digits.{decimal_one, decimal_more}

pub sets_append : (a b old : List ℕ) (at : ℕ) → sets (sets old at a) (at + length a) b ≡ sets old at (a ++ b)
sets_append [] b old at = let e : at + 0 ≡ at = omega arith in rw e
sets_append (x ∷ a) b old at =
    let e : at + suc (length a) ≡ suc at + length a = omega arith in
    rw e (sets_append a b (set old at x) (suc at))

pub put_on : {a b old mid new : List ℕ} {at i j : ℕ} → Put a at old mid i → Put b i mid new j → Put (a ++ b) at old new j
put_on {a} {b} {old} {mid} {new} {at} {i} {j} p q =
    record {
      bytes = q.bytes ∙ rw (p.bytes, p.place) (sets_append a b old at);
      place = let e = p.place in let f = q.place in omega (arith, length-append a b);
    }

-- ---- the same of a text's struct

pub puts_none : (t : Text) → Puts [] t t
puts_none t = record { same_bytes = refl; put = record { bytes = refl; place = omega arith } }

pub puts_on : {a b : List ℕ} {old mid new : Text} → Puts a old mid → Puts b mid new → Puts (a ++ b) old new
puts_on p q = record { same_bytes = q.same_bytes ∙ p.same_bytes; put = put_on p.put q.put }

pub puts_as : {a b : List ℕ} {old new : Text} → a ≡ b → Puts a old new → Puts b old new
puts_as e p = rw (← e) p

-- what lies past the bytes is dropped
sets_past : (word old : List ℕ) (at : ℕ) → length old ≤ at → sets old at word ≡ old
sets_past [] old at h = refl
sets_past (x ∷ xs) old at h = rw (set_past old at x h) (sets_past xs old (suc at) (omega arith))

-- a word's first bytes are written, as many as there is room for
sets_room : (word old : List ℕ) (at n : ℕ) → at < length old → n ≡ min (length word) (length old - at) → sets old at word ≡ take at old ++ (take n word ++ drop n (drop at old))
sets_room word old at n h e =
    let few : length (take n word) ≡ n = length-take-le n word (omega arith) in
    ap (λ (w : List ℕ). sets old at w) (sym (take-append-drop n word))
    ∙ sym (sets_append (take n word) (drop n word) old at)
    ∙ rest (dec_lt n (length word))
    ∙ rw few at (sets-eq (take n word) old at (omega arith))
    ∙ append_assoc (take at old) (take n word) (drop (at + n) old)
    ∙ ap (λ (l : List ℕ). take at old ++ (take n word ++ l)) (sym (drop-drop n at old))
  where
    rest : Dec (n < length word) → sets (sets old at (take n word)) (at + length (take n word)) (drop n word) ≡ sets old at (take n word)
    rest (yes l) =
        sets_past (drop n word) (sets old at (take n word)) (at + length (take n word))
        (omega (arith, length-sets old at (take n word), length-take-le n word (omega arith)))
    rest (no l) = let none : drop n word ≡ [] = drop_of_length-le word (omega arith) in rw none

pub puts_word : (word : List ℕ) (t new : Text) (n : ℕ) → t.at < length t.out.now → n ≡ min (length word) (length t.out.now - t.at)
    → new.out.ghost_name ≡ t.out.ghost_name → new.out.now ≡ put_mid t.at (t.at + n - t.at) t.out.now (take n word) → new.at ≡ t.at + length word → Puts word t new
puts_word word t new n h e same bytes place =
    let k : t.at + n - t.at ≡ n = omega arith in
    record { same_bytes = same; put = record { bytes = bytes ∙ rw k (sym (sets_room word t.out.now t.at n h e)); place = place } }

pub puts_past : (word : List ℕ) (t : Text) → length t.out.now ≤ t.at → Puts word t (record { out = t.out; at = t.at + length word })
puts_past word t h = record { same_bytes = refl; put = record { bytes = sym (sets_past word t.out.now t.at h); place = refl } }

-- a number: a digit alone, or the digits of its tenth part and the last digit
pub puts_digit : (n : ℕ) {old new : Text} → n < 10 → Puts ((48 + n % 10) ∷ []) old new → Puts (decimal n) old new
puts_digit n h p = let same : n % 10 ≡ n = omega arith in puts_as (rw (decimal_one n h, same)) p

pub puts_last : (n : ℕ) {old mid new : Text} → 10 ≤ n → Puts (decimal (n / 10)) old mid → Puts ((48 + n % 10) ∷ []) mid new → Puts (decimal n) old new
puts_last n h p q = puts_as (sym (decimal_more n h)) (puts_on p q)
