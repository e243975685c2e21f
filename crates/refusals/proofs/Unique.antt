-- Two answers that meet a public promise are equal, for every public function: one law, cited of the contract itself. A weaker promise
-- would be refused here. Assumes nothing.
use mathlib.Core.Path.{◌≡◌, sym, ◌∙◌}
use Rattle.refusals.proofs.piece_ok.Reads as piece_ok
use Rattle.refusals.proofs.refusal.Refusal.number.Reads as number
use Rattle.refusals.proofs.refusal.number_in.Reads as number_in

pub piece_ok_unique : (κs : _) (args : _) (r q : _) (exit : _) → piece_ok.Post κs args r exit → piece_ok.Post κs args q exit → r ≡ q
piece_ok_unique κs args r q exit e f = e ∙ sym f

pub number_unique : (κs : _) (args : _) (r q : _) (exit : _) → number.Post κs args r exit → number.Post κs args q exit → r ≡ q
number_unique κs args r q exit e f = e ∙ sym f

pub number_in_unique : (T K κs : _) (args : _) (r q : _) (exit : _) → number_in.Post T K κs args r exit → number_in.Post T K κs args q exit → r ≡ q
number_in_unique T K κs args r q exit e f = e ∙ sym f
