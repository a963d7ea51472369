-- What both ends hold (01, "One end of a link"), made fresh, restarted and synchronised, and what is said of its two arrays.
use Rattle.std.specs.Prelude.{ℕ, ◌≡◌, Bool, true, false, List, length, replicate}
use Rattle.frame.specs.Pick.{pick}
use Rattle.side.specs.declared.Side.{Side}

-- the same side with other counts
abbrev pub with_counts : ℕ → ℕ → Side → Side
with_counts ns nr s =
    record {
      ns = record { 0 = ns };
      nr = record { 0 = nr };
      held = s.held;
      holds = s.holds;
      sent = s.sent;
      incoming = s.incoming;
      waits = s.waits;
      doubt = s.doubt;
    }

-- with another outgoing slot: its bytes, the size of the message in it (0: none) and whether that message has been sent
abbrev pub with_outgoing : List ℕ → ℕ → Bool → Side → Side
with_outgoing held holds sent s =
    record {
      ns = s.ns;
      nr = s.nr;
      held = held;
      holds = holds;
      sent = sent;
      incoming = s.incoming;
      waits = s.waits;
      doubt = s.doubt;
    }

-- with another incoming slot: its bytes, and the size of the message in it (0: none)
abbrev pub with_incoming : List ℕ → ℕ → Side → Side
with_incoming incoming waits s =
    record {
      ns = s.ns;
      nr = s.nr;
      held = s.held;
      holds = s.holds;
      sent = s.sent;
      incoming = incoming;
      waits = waits;
      doubt = s.doubt;
    }

-- with another mark for messages in doubt
abbrev pub with_doubt : Bool → Side → Side
with_doubt doubt s =
    record {
      ns = s.ns;
      nr = s.nr;
      held = s.held;
      holds = s.holds;
      sent = s.sent;
      incoming = s.incoming;
      waits = s.waits;
      doubt = doubt;
    }

-- "A fresh link has both counts zero, both slots empty and no mark."
abbrev pub fresh : Side
fresh =
    record {
      ns = record { 0 = 0 };
      nr = record { 0 = 0 };
      held = replicate 253 0;
      holds = 0;
      sent = false;
      incoming = replicate 253 0;
      waits = 0;
      doubt = false;
    }

-- "Restart makes the end fresh but keeps both slots, whether the held message has been sent, the doubt mark": all but the counts
abbrev pub restarted : Side → Side
restarted s = with_counts 0 0 s

-- "The mark stays until its owner clears it."
abbrev pub cleared : Side → Side
cleared s = with_doubt false s

-- "A held message already sent is dropped and the doubt mark set": its bytes stay in the array, past the size 0
abbrev pub dropped : Side → Side
dropped s = with_doubt true (with_outgoing s.held 0 false s)

-- 01, "Synchronising": "counts to zero"; what was sent is dropped; "an unsent one stays"
unfoldable pub synchronised : Side → Side
synchronised s = pick s.sent (dropped (restarted s)) (restarted s)

-- what holds of the arrays of the held and of the incoming message
pub record Slots (H J : List ℕ → Type 0) (s : Side) : Type 0 where
  pub held : H s.held
  pub incoming : J s.incoming

-- 01, "Where each form belongs": "arrays for the held and the incoming message", of 253 bytes each; so the type says of every struct of the code.
abbrev pub Arrays : Side → Type 0
Arrays s = Slots (λ x. length x ≡ 253) (λ x. length x ≡ 253) s
