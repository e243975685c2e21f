-- What a keeper and a member owe, and what parameters owe for a state to begin. All that members have in common follows from these.
-- Assumes nothing.
use mathlib.Core.Path.{◌≡◌}
use mathlib.Core.Bool.{true}
use mathlib.Core.List.{List, ◌++◌}
use Prim.Native.Nat.{ℕ, ◌*◌, ◌≤◌}
use lib.ListN.{length}
use Rattle.definitions.specs.Words.{pad}
use Rattle.laws_states.specs.Buffer.{Held}
use Rattle.laws_states.proofs.Buffers.{Lawful, Late}
use Rattle.laws_states.proofs.Lifts.{Store}
use Rattle.refusals.specs.Numbers.{is_length}
use Rattle.members.specs.Keeper.{key_row, Keeper}
use Rattle.members.specs.Member.{Member, limit}

pub record KeeperLaws {S L : Type 0} (k : Keeper S L) : Type 0 where
  pub lawful : Lawful k.machine
  pub room : k.machine.room ≡ k.bounds.room
  pub whole : k.bounds.unit * k.machine.step ≡ k.machine.row
  pub core_holding : (s : S) (h : Held L) → k.core (k.holding s h) ≡ h
  pub holding_holding : (s : S) (h j : Held L) → k.holding (k.holding s h) j ≡ k.holding s j
  pub holding_core : (s : S) → k.holding s (k.core s) ≡ s
  pub same_length : (s : S) (h : Held L) → k.hash_length (k.holding s h) ≡ k.hash_length s
  pub same_key : (s : S) (h : Held L) → k.keyed (k.holding s h) ≡ k.keyed s
  pub same_close : (s : S) (h : Held L) → k.close (k.holding s h) ≡ k.close s
  pub late : (s : S) → Late k.machine (k.close s)

pub record Laws {P S L : Type 0} (m : Member P S L) : Type 0 where
  pub keeper : KeeperLaws m.keeper
  pub key_fits : m.keeper.bounds.key ≤ limit m
  pub key_held : m.keeper.bounds.key ≤ m.keeper.bounds.room
  -- a fresh state has counted nothing, and holds the front, with zeros behind it
  pub starts : (p : P)
      → m.keeper.core (m.fresh p)
      ≡ record { at = (m.keeper.core (m.fresh p)).at; count = 0; buf = pad m.keeper.bounds.room (m.front p); buflen = length (m.front p) }

pub record Begun {P S L : Type 0} (m : Member P S L) (p : P) : Type 0 where
  pub good : m.good p ≡ true
  pub asked : is_length m.keeper.bounds.most (m.keeper.hash_length (m.fresh p)) ≡ true
  pub front_is : length (m.front p) ≡ m.ahead p
  pub ahead_is : m.ahead p ≡ key_row m.keeper.bounds (m.keeper.keyed (m.fresh p))
  pub digest_is : (d : List ℕ) → m.keeper.close (m.fresh p) (m.keeper.core (m.fresh p)).at 0 (m.front p ++ d) ≡ m.digest p d

abbrev pub store : {S L : Type 0} (k : Keeper S L) → KeeperLaws k → Store S L
store k laws = record {
  core = k.core;
  holding = k.holding;
  core_holding = laws.core_holding;
  holding_holding = laws.holding_holding;
  holding_core = laws.holding_core;
}
