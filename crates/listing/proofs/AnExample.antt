-- Document 01's worked example, and the empty capture.
-- Assumes nothing.
use mathlib.Core.Path.{refl}
use Rattle.frame.specs.Control.{byte_of, known, decode_of}
use Rattle.frame.specs.Message.{message_refusal}
use Rattle.frame.specs.Refusal.{address_refusal, none_refusal, information_refusal}
use Rattle.capture.specs.Record.{pair_at, kind_refusal, form_refusal, with_information, frame_in, record_of, record_at}
use Rattle.listing.specs.Decimal.{digits, decimal}
use Rattle.listing.specs.Listing.{lines_from, lines_of, listing}
use Rattle.listing.specs.Promises.{Worked, Empty}

pub worked : Worked
unfolding listing lines_of lines_from record_at record_of form_refusal kind_refusal pair_at frame_in with_information address_refusal information_refusal none_refusal message_refusal decode_of known byte_of decimal digits
worked = refl

pub empty : Empty
unfolding listing lines_of lines_from
empty = refl
