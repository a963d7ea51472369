-- Two records of document 01's worked input.
-- Assumes nothing.
use mathlib.Core.Path.{refl}
use Rattle.frame.specs.Control.{byte_of, known, decode_of}
use Rattle.frame.specs.Message.{message_refusal}
use Rattle.frame.specs.Refusal.{address_refusal, information_refusal}
use Rattle.capture.specs.Record.{pair_at, kind_refusal, form_refusal, with_information, frame_in, record_of, record_at}
use Rattle.capture.specs.Promises.{Worked}

pub worked : Worked
unfolding record_at record_of form_refusal kind_refusal pair_at frame_in with_information address_refusal information_refusal message_refusal decode_of known byte_of
worked = (refl, refl)
