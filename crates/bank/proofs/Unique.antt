-- Two answers that meet a public promise are equal, for every public function of the bank: one law, cited of the contract itself.
-- Assumes nothing.
use mathlib.Core.Path.{◌≡◌, ap}
use Rattle.std.specs.Prelude.{Result}
use Rattle.refusals.specs.declared.refusal.Refusal.{Refusal}
use Rattle.refusals.specs.declared.refusal.BatchRefusal.{BatchRefusal}
use Rattle.refusals.proofs.Settled.{settled, batch_settled}
use Rattle.hash.proofs.Unique.{Unique, unique, hash_settled, length_settled}
use Rattle.blake2b.proofs.Unique.{count_settled}
use Rattle.bank.specs.Answers.{BankAnswer, BatchAnswer, as_bank_answer, as_batch_answer}
use Rattle.bank.specs.declared.bank.Bank.{Bank}
use Rattle.bank.proofs.bank.Bank.new.Reads as bank_new
use Rattle.bank.proofs.bank.Bank.open.Reads as bank_open
use Rattle.bank.proofs.bank.Bank.update.Reads as bank_update
use Rattle.bank.proofs.bank.Bank.update_many.Reads as bank_update_many
use Rattle.bank.proofs.bank.Bank.digest.Reads as bank_digest
use Rattle.bank.proofs.bank.Bank.digest_to.Reads as bank_digest_to
use Rattle.bank.proofs.bank.Bank.count.Reads as bank_count
use Rattle.bank.proofs.bank.Bank.close.Reads as bank_close

-- a Result that is read as one answer
module _ (b : Bank) where
  bank_settled : {r q : Result Bank Refusal} → as_bank_answer b r ≡ as_bank_answer b q → r ≡ q
  bank_settled e = settled b (ap (λ (a : BankAnswer). a.number) e) (ap (λ (a : BankAnswer). a.bank) e)

  pub records_settled : {r q : Result Bank BatchRefusal} → as_batch_answer b r ≡ as_batch_answer b q → r ≡ q
  records_settled e =
      batch_settled b (ap (λ (a : BatchAnswer). a.number) e) (ap (λ (a : BatchAnswer). a.index) e) (ap (λ (a : BatchAnswer). a.bank) e)

pub bank_new_unique : Unique bank_new.Post
bank_new_unique κs args r q exit e f = unique e f

pub bank_open_unique : Unique bank_open.Post
bank_open_unique κs args r q exit e f = bank_settled _ (unique e f)

pub bank_update_unique : Unique bank_update.Post
bank_update_unique κs args r q exit e f = bank_settled _ (unique e f)

pub bank_update_many_unique : Unique bank_update_many.Post
bank_update_many_unique κs args r q exit e f = records_settled _ (unique e f)

pub bank_digest_unique : Unique bank_digest.Post
bank_digest_unique κs args r q exit e f = hash_settled (unique e f)

pub bank_digest_to_unique : (κs : _) (args : _) (r q : _) (x y : _) → bank_digest_to.Post κs args r x → bank_digest_to.Post κs args q y → (r ≡ q) × (x.1.1.0.now ≡ y.1.1.0.now)
bank_digest_to_unique κs args r q x y e f = (length_settled (unique e.0 f.0), unique e.1 f.1)

pub bank_count_unique : Unique bank_count.Post
bank_count_unique κs args r q exit e f = count_settled (unique e f)

pub bank_close_unique : Unique bank_close.Post
bank_close_unique κs args r q exit e f = bank_settled _ (unique e f)
