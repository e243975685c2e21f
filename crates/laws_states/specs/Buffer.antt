-- A state that takes bytes in rows and keeps in a buffer what may not go yet, over any machine that takes rows.
-- Assumes nothing.
use Rattle.std.specs.Prelude.{ℕ, zero, suc, ◌+◌, ◌-◌, ◌*◌, Bool, cond, List, [], ◌∷◌, ◌++◌, length, take, drop, leb}
use Rattle.laws_words.specs.Bytes.{zeros, over}
use Rattle.laws_blocks.specs.Chain.{spare, absorb}

-- L is what a machine works on: the words of a hash, or of each leaf
pub record Machine (L : Type 0) : Type 0 where
  -- the bytes of a row; what a row adds to the count; the bytes that must be left, and one more, for a row to go; the bytes of the buffer
  pub row : ℕ
  pub step : ℕ
  pub need : ℕ
  pub room : ℕ
  -- l after k rows of d, at the count t
  pub run : L → ℕ → List ℕ → ℕ → L

pub record Held (L : Type 0) : Type 0 where
  pub at : L
  pub count : ℕ
  pub buf : List ℕ
  pub buflen : ℕ

-- what the buffer, of n bytes, holds behind its used bytes, once k rows have gone: what it held, or zeros
unfoldable pub behind : ℕ → ℕ → List ℕ → List ℕ
behind n zero b = b
behind n (suc k) b = zeros n

-- the bytes of several pieces
unfoldable pub joined : List (List ℕ) → List ℕ
joined [] = []
joined (a ∷ ps) = a ++ joined ps

-- the bytes that wait in the buffer
unfoldable pub pending : {L : Type 0} → Held L → List ℕ
pending s = take s.buflen s.buf

module _ {L : Type 0} (m : Machine L) where
  -- the state s with the bytes all in place of its pending ones, k rows of them gone
  unfoldable pub moved : Held L → List ℕ → ℕ → Held L
  moved s all k =
      record {
        at = m.run s.at s.count all k;
        count = s.count + m.step * k;
        buf = over (drop (m.row * k) all) (behind m.room k s.buf);
        buflen = length all - m.row * k;
      }

  -- with p bytes held, and n with those that come, the rows that go: none where some are held and all fit; else all that may
  unfoldable pub gone : ℕ → ℕ → ℕ
  gone zero n = spare m.row m.need n
  gone (suc p) n = cond (leb n m.room) 0 (spare m.row m.need n)

  -- the state s once the bytes a came
  unfoldable pub pushed : Held L → List ℕ → Held L
  pushed s a = moved s (pending s ++ a) (gone (length (pending s)) (length (pending s ++ a)))

  unfoldable pub after : Held L → List (List ℕ) → Held L
  after s [] = s
  after s (a ∷ ps) = after (pushed s a) ps

  -- the state of no bytes
  unfoldable pub fresh : L → Held L
  fresh l = record { at = l; count = 0; buf = zeros m.room; buflen = 0 }

-- the answer that a state gives, of what has gone and what waits
unfoldable pub closed : {L D : Type 0} → (L → ℕ → List ℕ → D) → Held L → D
closed close s = close s.at s.count (pending s)

-- the bytes that came, where a row adds a u-th of its bytes to the count
unfoldable pub tally : {L : Type 0} → ℕ → Held L → ℕ
tally u s = u * s.count + s.buflen

-- the machine of one hash: its rows are blocks, all but the last of them go
abbrev pub serial : {W : Type 0} (bb : ℕ) → (W → List ℕ → ℕ → Bool → Bool → W) → Machine W
serial bb F = record { row = bb; step = bb; need = 0; room = bb; run = absorb bb F bb }
