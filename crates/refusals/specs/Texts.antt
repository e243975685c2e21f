-- What a refusal says to a reader.
-- Assumes nothing.
use Rattle.std.specs.Prelude.{ℕ, List, ◌++◌, codes, decimal}
use Rattle.refusals.specs.declared.refusal.Refusal.{Refusal}
use Rattle.refusals.specs.declared.refusal.Refusal.TheVariants.{DigestLength, KeyLength, SaltLength, PersonalLength, InnerLength, Total, Slot, Closed, Piece, Batch, Output, Unfinished, Open, Record}
use Rattle.refusals.specs.declared.refusal.BatchRefusal.{BatchRefusal}

abbrev pub text_of : Refusal → List ℕ
text_of DigestLength = codes "the digest length is 0 or over 64"
text_of KeyLength = codes "the key is over 64 bytes"
text_of SaltLength = codes "the salt is over 16 bytes"
text_of PersonalLength = codes "the personalization is over 16 bytes"
text_of InnerLength = codes "the inner length is over 64"
text_of Total = codes "the total would pass the limit"
text_of Slot = codes "the slot number is over 15"
text_of Closed = codes "the slot is not open"
text_of Piece = codes "the piece does not lie inside its data"
text_of Batch = codes "there are more than 16 records or jobs"
text_of Output = codes "the output is shorter than what is to be written"
text_of Unfinished = codes "a digest is asked of an unfinished job"
text_of Open = codes "the slot is open already"
text_of Record = codes "a record breaks its stated range"

abbrev pub batch_text_of : BatchRefusal → List ℕ
batch_text_of e = text_of e.refusal ++ codes " at index " ++ decimal e.index
