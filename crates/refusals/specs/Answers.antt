-- A Result read as document 01's answer: 0 and the value, or the refusal's number and what stands in place of a value.
-- Assumes nothing.
use Rattle.std.specs.Prelude.{ℕ, Result, Ok, Err}
use Rattle.refusals.specs.Numbers.{accepted, digest_length, key_length, salt_length, personal_length, inner_length, total_over, slot_number, slot_closed, piece_outside, batch_long, output_short, job_unfinished, slot_open, bad_record}
use Rattle.refusals.specs.declared.refusal.Refusal.{Refusal}
use Rattle.refusals.specs.declared.refusal.Refusal.TheVariants.{DigestLength, KeyLength, SaltLength, PersonalLength, InnerLength, Total, Slot, Closed, Piece, Batch, Output, Unfinished, Open, Record}
use Rattle.refusals.specs.declared.refusal.BatchRefusal.{BatchRefusal}

abbrev pub number_of : Refusal → ℕ
number_of DigestLength = digest_length
number_of KeyLength = key_length
number_of SaltLength = salt_length
number_of PersonalLength = personal_length
number_of InnerLength = inner_length
number_of Total = total_over
number_of Slot = slot_number
number_of Closed = slot_closed
number_of Piece = piece_outside
number_of Batch = batch_long
number_of Output = output_short
number_of Unfinished = job_unfinished
number_of Open = slot_open
number_of Record = bad_record

module _ {A : Type 0} where
  abbrev pub number_in : Result A Refusal → ℕ
  number_in (Ok x) = accepted
  number_in (Err e) = number_of e

  -- the value, or what stands in its place
  abbrev pub value_in : {E : Type 0} → A → Result A E → A
  value_in z (Ok x) = x
  value_in z (Err e) = z

  -- of a batch: the number, and the index of the first bad record or job
  abbrev pub batch_number_in : Result A BatchRefusal → ℕ
  batch_number_in (Ok x) = accepted
  batch_number_in (Err e) = number_of e.refusal

  abbrev pub index_in : Result A BatchRefusal → ℕ
  index_in (Ok x) = 0
  index_in (Err e) = e.index
