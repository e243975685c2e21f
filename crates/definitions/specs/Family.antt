-- What tells BLAKE2b and BLAKE2s apart (RFC 7693, sections 2.1 and 2.6; the paper, "Parameter block").
-- Assumes nothing.
use Rattle.std.specs.Prelude.{List, [], ◌∷◌, ℕ}

pub record Family : Type 0 where
  -- bits in a word, bytes in a word, bytes in a block
  pub w : ℕ
  pub ww : ℕ
  pub bb : ℕ
  -- rounds in F
  pub rounds : ℕ
  -- G's rotations
  pub R1 : ℕ
  pub R2 : ℕ
  pub R3 : ℕ
  pub R4 : ℕ
  -- the initialization vector
  pub IV : List ℕ
  -- of the parameter block: bytes of the node offset, reserved bytes, bytes of the salt and of the personalization
  pub offset_bytes : ℕ
  pub reserved : ℕ
  pub salt_bytes : ℕ

abbrev pub BLAKE2b : Family
BLAKE2b = record {
  w = 64;
  ww = 8;
  bb = 128;
  rounds = 12;
  R1 = 32;
  R2 = 24;
  R3 = 16;
  R4 = 63;
  IV = 0x6A09E667F3BCC908 ∷ 0xBB67AE8584CAA73B ∷ 0x3C6EF372FE94F82B ∷ 0xA54FF53A5F1D36F1
      ∷ 0x510E527FADE682D1 ∷ 0x9B05688C2B3E6C1F ∷ 0x1F83D9ABFB41BD6B ∷ 0x5BE0CD19137E2179 ∷ [];
  offset_bytes = 8;
  reserved = 14;
  salt_bytes = 16;
}

abbrev pub BLAKE2s : Family
BLAKE2s = record {
  w = 32;
  ww = 4;
  bb = 64;
  rounds = 10;
  R1 = 16;
  R2 = 12;
  R3 = 8;
  R4 = 7;
  IV = 0x6A09E667 ∷ 0xBB67AE85 ∷ 0x3C6EF372 ∷ 0xA54FF53A ∷ 0x510E527F ∷ 0x9B05688C ∷ 0x1F83D9AB ∷ 0x5BE0CD19 ∷ [];
  offset_bytes = 6;
  reserved = 0;
  salt_bytes = 8;
}
