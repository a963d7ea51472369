-- The other worked cases of 01 ("On both sides of the line", "Bits between flags"), each computed from the definitions that the contracts cite.
use Rattle.std.specs.Prelude.{ℕ, ◌≡◌, Bool, true, false, List, [], ◌∷◌, ◌++◌, take, replicate}
use Rattle.frame.specs.Answer.{gives, refuses}
use Rattle.frame.specs.Message.{message_refusal}
use Rattle.frame.specs.Refusal.{address_refusal}
use Rattle.frame.specs.declared.Meaning.{Meaning}
use Rattle.frame.specs.declared.Meaning.TheVariants.{I, Rr, Rnr}
use Rattle.bits.specs.Check.{check_word}
use Rattle.bits.specs.Flag.{flag}
use Rattle.reader.specs.Flags.{nothing, content, heard}
use Rattle.reader.specs.Read.{judged}
use Rattle.side.specs.Side.{fresh}
use Rattle.side.specs.declared.answer.Change.TheVariants.{Same}
use Rattle.frame.specs.declared.Line.{Line}
use Rattle.side.specs.declared.answer.News.{News}
use Rattle.slave.specs.Slave as slaves
use Rattle.slave.specs.Step.{step_of}
use Rattle.slave.specs.declared.Mode.TheVariants.{Nrm}
use Rattle.slave.specs.declared.Slave.{Slave}
use Rattle.master.specs.Master as masters
use Rattle.master.specs.Order.{order_of}
use Rattle.master.specs.Response.{brings, response_of}
use Rattle.master.specs.declared.Mode.TheVariants.{Linked}
use Rattle.master.specs.declared.Master.{Master}
use Rattle.paper.specs.Points.{digits, ns, nr}

pub record Bounds : Type 0 where
  -- "Address 0, 251 refused; 1, 250 taken."
  pub addresses : (address_refusal 0 ≡ 8) × (address_refusal 251 ≡ 8) × (address_refusal 1 ≡ 0) × (address_refusal 250 ≡ 0)
  -- "Information of 4 refused; 5, 253 taken."
  pub four : message_refusal (6 ∷ replicate 3 0) ≡ 10
  pub five : message_refusal (7 ∷ replicate 4 0) ≡ 0
  pub most : message_refusal (255 ∷ replicate 252 0) ≡ 0

abbrev ones : ℕ → List Bool
ones n = replicate n true

abbrev frame : List Bool → List Bool
frame c = flag ++ c ++ flag

pub record OnTheLine : Type 0 where
  -- "Over the nine ASCII digits 123456789 it is 906E hex."
  pub check : check_word (0x31 ∷ 0x32 ∷ 0x33 ∷ 0x34 ∷ 0x35 ∷ 0x36 ∷ 0x37 ∷ 0x38 ∷ 0x39 ∷ []) ≡ 0x906E
  -- two flags enclose a content, and its place is the one after the first flag; what stands before the first flag does not matter
  pub plain : heard (frame (digits (1 ∷ 0 ∷ []))) ≡ content 8 (digits (1 ∷ 0 ∷ []))
  pub led : heard (digits (0 ∷ 1 ∷ 1 ∷ []) ++ frame (digits (1 ∷ []))) ≡ content 11 (digits (1 ∷ []))
  -- flags that share their zero, and three flags that follow each other: empty content is skipped and the later flag opens
  pub shared : heard (take 7 flag ++ frame (digits (1 ∷ []))) ≡ content 15 (digits (1 ∷ []))
  pub three : heard (flag ++ flag ++ frame (digits (0 ∷ 1 ∷ []))) ≡ content 24 (digits (0 ∷ 1 ∷ []))
  -- seven ones drop what was gathered; the flag after them opens, and may use the zero that ends them
  pub dropped : heard (flag ++ digits (0 ∷ []) ++ ones 7 ++ frame (digits (1 ∷ []))) ≡ content 24 (digits (1 ∷ []))
  pub closed_by_none : heard (frame (ones 7)) ≡ nothing
  -- a flag without its first zero at the very start is none, and neither is one that the count cuts
  pub no_first_zero : heard (ones 6 ++ digits (0 ∷ 1 ∷ []) ++ flag) ≡ nothing
  pub cut : heard (take 17 (frame (digits (1 ∷ 0 ∷ [])))) ≡ nothing
  pub whole : heard (take 18 (frame (digits (1 ∷ 0 ∷ [])))) ≡ content 8 (digits (1 ∷ 0 ∷ []))
  -- 3: five ones at the very end, the zero after them being the flag's; 4: five ones and their inserted zero, which are not whole bytes
  pub five : judged (heard (frame (ones 5))) ≡ refuses 3
  pub five_and_zero : judged (heard (frame (ones 5 ++ digits (0 ∷ [])))) ≡ refuses 4
  -- the first content alone is judged, though a longer one follows
  pub scrap : judged (heard (frame (digits (1 ∷ [])) ++ replicate 40 false ++ flag)) ≡ refuses 4

-- station 5 and its master, linked, counts zero, nothing held, nothing waiting
abbrev pub slave : Slave
slave = record { side = fresh; mode = Nrm; address = 5 }

abbrev pub master : Master
master = record { side = fresh; mode = Linked; busy = false; waiting = false; tick = 0; limit = 10; address = 5 }

-- a message of 5 bytes, which the master's owner puts and which goes out in an I order with both counts 0
abbrev pub message : List ℕ
message = 7 ∷ 0 ∷ 5 ∷ 0x31 ∷ 1 ∷ []

abbrev pub order : Meaning
order = I (ns 0) (nr 0)

abbrev pub sent : Master
sent = (order_of (masters.put_of master message).end 0 253).end

-- the slave after that order
abbrev pub ordered : Slave → Slave
ordered s = (step_of s 5 order message 253).end

-- and once its owner has taken the message
abbrev pub took : Slave
took = (slaves.take_of (ordered slave) 253).end

abbrev pub says : Meaning → ℕ → Line
says f n = record { address = 5; meaning = f; size = n }

abbrev pub tells : ℕ → ℕ → News
tells confirmed handed = record { confirmed = confirmed; handed = handed; link = Same }

pub record BothEnds : Type 0 where
  -- "New message into an empty slot, none held: answer RNR with Nr one higher, which confirms."
  pub sends : (order_of (masters.put_of master message).end 0 253).answer ≡ gives (says order 5)
  pub answers : (step_of slave 5 order message 253).answer ≡ gives (says (Rnr (nr 1)) 0, tells 0 5)
  pub confirms : (response_of sent 5 (Rnr (nr 1)) [] 9).answer ≡ gives (brings (tells 5 0))
  pub released : (response_of sent 5 (Rnr (nr 1)) [] 9).end.side.holds ≡ 0
  -- "Order arrives, response lost, slave's owner takes the message, whole exchange: duplicate dropped, RR with Nr 1, one handing over."
  pub taken : (slaves.take_of (ordered slave) 253).answer ≡ gives 5
  pub again : (step_of took 5 order message 253).answer ≡ gives (says (Rr (nr 1)) 0, tells 0 0)
  pub empty : (ordered took).side.waits ≡ 0

pub record Worked : Type 0 where
  pub bounds : Bounds
  pub line : OnTheLine
  pub ends : BothEnds
