-- Document 01's numbers: the refusals, in its order, the limit of a total, when a piece lies inside its data, and which lengths a digest has.
-- crates/refusals/src has the same, but for the last. Assumes nothing.
use Rattle.std.specs.Prelude.{Bool, ◌&&◌, ℕ, ◌-◌, ◌^◌, ltb, leb}

-- the call was accepted
abbrev pub accepted : ℕ
accepted = 0

-- the digest length is 0 or over 64
abbrev pub digest_length : ℕ
digest_length = 1

-- the key is over 64 bytes
abbrev pub key_length : ℕ
key_length = 2

-- the salt is over 16 bytes
abbrev pub salt_length : ℕ
salt_length = 3

-- the personalization is over 16 bytes
abbrev pub personal_length : ℕ
personal_length = 4

-- the inner length is over 64
abbrev pub inner_length : ℕ
inner_length = 5

-- the total would pass the limit
abbrev pub total_over : ℕ
total_over = 6

-- the slot number is over 15
abbrev pub slot_number : ℕ
slot_number = 7

-- the slot is not open
abbrev pub slot_closed : ℕ
slot_closed = 8

-- the piece does not lie inside its data
abbrev pub piece_outside : ℕ
piece_outside = 9

-- there are more than 16 records or jobs
abbrev pub batch_long : ℕ
batch_long = 10

-- the output is shorter than what is to be written
abbrev pub output_short : ℕ
output_short = 11

-- a digest is asked of an unfinished job
abbrev pub job_unfinished : ℕ
job_unfinished = 12

-- an open slot is to be opened
abbrev pub slot_open : ℕ
slot_open = 13

-- a record handed in breaks a stated range
abbrev pub bad_record : ℕ
bad_record = 14

-- message bytes and key block bytes together are at most this; shut, so that no proof goes by its digits
unfoldable pub limit : ℕ
limit = 2 ^ 64 - 1

-- whether a piece lies inside data of n bytes: it starts in front of their end, and is no longer than what is left
unfoldable pub piece_ok : ℕ → ℕ → ℕ → Bool
piece_ok start length n = ltb start n && leb length (n - start)

-- a digest has 1 byte to the most that its member makes
abbrev pub is_length : ℕ → ℕ → Bool
is_length most n = leb 1 n && leb n most
