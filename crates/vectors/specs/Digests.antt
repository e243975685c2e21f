-- More digests, and states after one call of F, computed by the checker from the definitions, and what others say they are: the designers'
-- published answers, libb2 and Python's hashlib, as tests/vectors/make prints them. Assumes nothing.
use Rattle.std.specs.Prelude.{◌≡◌, refl, true, false, ℕ, ◌%◌}
use mathlib.Core.List.{List, [], ◌∷◌, map, flat_map}
use Rattle.definitions.specs.Words.{rotr, from, pad}
use Rattle.definitions.specs.Family.{BLAKE2b, BLAKE2s}
use Rattle.definitions.specs.Compress.{SIGMA, G, round, rounds_to, ones, F}
use Rattle.definitions.specs.Hash.{Parameters, parameter_block, start, words, keyed, calls, compress, state_bytes, untruncated, hash, blake2}
use Rattle.definitions.specs.Tree.{share, leaf_data, parameters, leaf, parallel, BLAKE2bp, BLAKE2sp}
use Rattle.definitions.specs.Vectors.{abc, called, Vector, ◌is◌, results, published}

-- n bytes: 0, 1, .., 255, 0 and so on
abbrev pub counting : ℕ → List ℕ
counting n = map (λ i. i % 256) (from 0 n)

-- 20 bytes, a key of 16, and salt and personalization of these lengths
abbrev pub salted : ℕ → ℕ → Parameters
salted s p = record {
  digest_length = 20;
  key_length = 16;
  fanout = 1;
  depth = 1;
  leaf_length = 0;
  node_offset = 0;
  node_depth = 0;
  inner_length = 0;
  salt = from 0x10 s;
  personal = from 0x20 p;
}

-- every field of the parameter block set
abbrev pub inner : ℕ → ℕ → ℕ → ℕ → Parameters
inner n offset s p = record {
  digest_length = n;
  key_length = 0;
  fanout = 2;
  depth = 3;
  leaf_length = 0x01020304;
  node_offset = offset;
  node_depth = 1;
  inner_length = 17;
  salt = from 0x10 s;
  personal = from 0x20 p;
}

unfoldable pub vectors_b : List Vector
vectors_b =
    (blake2 BLAKE2b 64 [] (from 0 129) is 0xf59711d44a031d5f97a9413c065d1e614c417ede998590325f49bad2fd444d3e4418be19aec4e11449ac1a57207898bc57d76a1bcf3566292c20c683a5c4648f)
    ∷ (blake2 BLAKE2b 64 (from 0 64) (from 0 255) is 0x142709d62e28fcccd0af97fad0f8465b971e82201dc51070faa0372aa43e92484be1c1e73ba10906d5d1853db6a4106e0a7bf9800d373d6dee2d46d62ef2a461)
    ∷ (hash BLAKE2b (salted 16 8) false (from 0 16) abc is 0x9f034ee26e0c38784dcb4f01243de99778221aeb)
    ∷ (hash BLAKE2b (inner 64 0x05060708090a0b0c 16 8) true [] abc
    is 0x488853bf0f02d481f27d7dff05ac5f637d86ca0408e8c5072f97bf03b28eeb301f27f307c6d287e4471c8ff42259d8bd69eea5d83ac9cfb485025b7e837f55c3)
    ∷ (called BLAKE2b false 5 131 is 0xcf23a404f047ca07ec2f65104ab3a486a878d49dad9dac33c0491bd510153e2af187c97965b12ce33bc70a3d7ec838479195ec87953cb6da40cecadf5e5c07a0)
    ∷ (BLAKE2bp 64 (from 0 64) (from 0 255) is 0x96fbcbb60bd313b8845033e5bc058a38027438572d7e7957f3684f6268aadd3ad08d21767ed6878685331ba98571487e12470aad669326716e46667f69f8d7e8)
    ∷ []

unfoldable pub vectors_s : List Vector
vectors_s =
    (blake2 BLAKE2s 32 [] (from 0 65) is 0x1b53ee94aaf34e4b159d48de352c7f0661d0a40edff95a0b1639b4090e974472)
    ∷ (blake2 BLAKE2s 32 (from 0 32) (from 0 255) is 0x3fb735061abc519dfe979e54c1ee5bfad0a9d858b3315bad34bde999efd724dd)
    ∷ (hash BLAKE2s (salted 8 4) false (from 0 16) abc is 0x0c48e2fdaafbfc65778666737864d9d8e9d2b244)
    ∷ (hash BLAKE2s (inner 32 0x05060708090a 8 4) true [] abc is 0xc14066638ba21fc3d00e568b8919ad96eb8544603f80c71d0722c9a74f8ce86a)
    ∷ (called BLAKE2s false 5 67 is 0x5bab45cd70b2b40073fbac0996b49667df561feda04f27428bdfb76221ee35d9)
    ∷ (called BLAKE2s true 5 67 is 0x476e816ccbf7f817a3578d78a4f2a238a201847b78139af65666ee5a7f8c0874)
    ∷ (BLAKE2sp 32 [] [] is 0xdd0e891776933f43c7d032b08a917e25741f8aa9a12c12e1cac8801500f2ca4f)
    ∷ (BLAKE2sp 32 (from 0 32) (from 0 255) is 0x0c8a36597d7461c63a94732821c941856c668376606c86a52de0ee4104c615db)
    ∷ []

-- more than a row of blocks, a block dealt in part, and a digest that is not a whole state
unfoldable pub vectors_rows : List Vector
vectors_rows =
    (BLAKE2bp 20 (from 0 16) (counting 641) is 0xb366c03b5494af13a563c7606da429219eb1c867)
    ∷ (BLAKE2sp 20 (from 0 16) (counting 577) is 0x69b6b40472486159611dd31f5c2e9caca6a79f94)
    ∷ []

pub agree_b : results vectors_b ≡ published vectors_b
unfolding results published vectors_b SIGMA G rotr round rounds_to ones F start words parameter_block pad keyed calls compress state_bytes untruncated hash flat_map share leaf_data parameters leaf parallel
agree_b = refl

pub agree_s : results vectors_s ≡ published vectors_s
unfolding results published vectors_s SIGMA G rotr round rounds_to ones F start words parameter_block pad keyed calls compress state_bytes untruncated hash flat_map share leaf_data parameters leaf parallel
agree_s = refl

pub agree_rows : results vectors_rows ≡ published vectors_rows
unfolding results published vectors_rows SIGMA G rotr round rounds_to ones F start words parameter_block pad keyed calls compress state_bytes untruncated hash flat_map share leaf_data parameters leaf parallel
agree_rows = refl
