-- The control byte (01, "Control bytes").
use Rattle.std.specs.Prelude.{ℕ, ◌+◌, ◌*◌, List, [], ◌∷◌, ◌++◌, map, eqb, ltb}
use Rattle.frame.specs.Pick.{pick, ◌then◌}
use Rattle.frame.specs.Answer.{Answer, gives, refuses, unless}
use Rattle.frame.specs.declared.SendCount.{SendCount}
use Rattle.frame.specs.declared.ReceiveCount.{ReceiveCount}
use Rattle.frame.specs.declared.Meaning.{Meaning}
use Rattle.frame.specs.declared.Meaning.TheVariants.{I, Rr, Rnr, Snrm, Disc, Ua, Frmr}

-- the table, line by line
unfoldable pub byte_of : Meaning → ℕ
byte_of (I ns nr) = 16 + 2 * ns.0 + 32 * nr.0
byte_of (Rr nr) = 17 + 32 * nr.0
byte_of (Rnr nr) = 21 + 32 * nr.0
byte_of Snrm = 0x93
byte_of Disc = 0x53
byte_of Ua = 0x73
byte_of Frmr = 0x97

-- "each runs 0 to 7"
abbrev pub count_refusal : ℕ → ℕ
count_refusal n = pick (ltb 7 n) 9 0

-- 9 where a count is above 7
unfoldable pub counts_refusal : Meaning → ℕ
counts_refusal (I ns nr) = count_refusal ns.0 then count_refusal nr.0
counts_refusal (Rr nr) = count_refusal nr.0
counts_refusal (Rnr nr) = count_refusal nr.0
counts_refusal Snrm = 0
counts_refusal Disc = 0
counts_refusal Ua = 0
counts_refusal Frmr = 0

-- from a meaning to its byte
unfoldable pub encode_of : Meaning → Answer ℕ
encode_of m = unless (counts_refusal m) (byte_of m)

abbrev counts : List ℕ
counts = 0 ∷ 1 ∷ 2 ∷ 3 ∷ 4 ∷ 5 ∷ 6 ∷ 7 ∷ []

abbrev send_count : ℕ → SendCount
send_count n = record { 0 = n }

abbrev receive_count : ℕ → ReceiveCount
receive_count n = record { 0 = n }

abbrev each_i : List ℕ → List Meaning
each_i [] = []
each_i (nr ∷ nrs) = map (λ (ns : ℕ). I (send_count ns) (receive_count nr)) counts ++ each_i nrs

-- every frame that the table knows
unfoldable pub known : List Meaning
known =
    each_i counts ++ map (λ (n : ℕ). Rr (receive_count n)) counts ++ map (λ (n : ℕ). Rnr (receive_count n)) counts ++ (Snrm ∷ Disc ∷ Ua ∷ Frmr ∷ [])

-- the first of the meanings whose byte it is
abbrev pub look : ℕ → List Meaning → Answer Meaning
look b [] = refuses 9
look b (m ∷ ms) = pick (eqb b (byte_of m)) (gives m) (look b ms)

-- from a byte to its meaning: the table read backwards
unfoldable pub decode_of : ℕ → Answer Meaning
decode_of b = look b known
