-- Two takers that stay alike answer alike, whatever they are asked: the induction over a history, for any relation between them.
-- Assumes nothing.
use mathlib.Core.Path.{◌≡◌, refl}
use mathlib.Core.List.{List, [], ◌∷◌}
use Rattle.members.specs.Row.{Call, change, digest, count, numbered, Taker, answers}

module _ {X Y A : Type 0} (k : Taker X A) (l : Taker Y A) (Like : X → Y → Type 0) where
  pub record Alike : Type 0 where
    pub number : (x : X) (y : Y) (a : A) → Like x y → k.number x a ≡ l.number y a
    pub next : (x : X) (y : Y) (a : A) → Like x y → Like (k.next x a) (l.next y a)
    pub digested : (x : X) (y : Y) → Like x y → k.digested x ≡ l.digested y
    pub counted : (x : X) (y : Y) → Like x y → k.counted x ≡ l.counted y

  pub alike_answers : Alike → (cs : List (Call A)) (x : X) (y : Y) → Like x y → answers k x cs ≡ answers l y cs
  unfolding answers
  alike_answers h [] x y e = refl
  alike_answers h (change a ∷ cs) x y e = λ i. numbered (h.number x y a e i) ∷ alike_answers h cs (k.next x a) (l.next y a) (h.next x y a e) i
  alike_answers h (digest ∷ cs) x y e = λ i. h.digested x y e i ∷ alike_answers h cs x y e i
  alike_answers h (count ∷ cs) x y e = λ i. h.counted x y e i ∷ alike_answers h cs x y e i
