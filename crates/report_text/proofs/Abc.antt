-- Document 01's example, computed: the report of abc, with the digest of RFC 7693's appendix A.
-- Assumes nothing.
use mathlib.Core.Path.{◌≡◌, refl}
use mathlib.Core.List.{◌++◌, flat_map}
use Rattle.definitions.specs.Words.{rotr, pad}
use Rattle.definitions.specs.Compress.{SIGMA, G, round, rounds_to, ones, F}
use Rattle.definitions.specs.Hash.{start, words, parameter_block, keyed, calls, compress, state_bytes, untruncated, hash}
use Rattle.definitions.specs.Vectors.{abc}
use Rattle.hash.specs.Hash.{digit_of, hex_of}
use Rattle.report_text.specs.Ascii.{ascii}
use Rattle.report_text.specs.Lines.{spelled, line, length_lines, five_lines}
use Rattle.report_text.specs.Reads.{reported}

pub abc_reported : reported abc
    ≡ ascii "alg=blake2b\nhash_length=64\nkey_length=0\ncount=3\n"
    ++ ascii "digest=ba80a53f981c4d0d6a2797b69f12f6e94c212f14685ac4b74b12bb6fdbffa2d17d87c5392aab792dc252d5de4533cc9518d38aa8dbf1925ab92386edd4009923\n"
unfolding SIGMA G rotr round rounds_to ones F start words parameter_block pad keyed calls compress state_bytes untruncated hash flat_map digit_of hex_of spelled line length_lines five_lines
abc_reported = refl
