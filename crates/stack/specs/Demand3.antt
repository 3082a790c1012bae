-- Demand 3: "Start any run with the stack pointer in 0xEA to 0xFF", from any situation: any machine, limit, input, place and room. Step n is the one
-- that comes after n steps. What is said of every n is so of every prefix of every run; a step that is refused leaves all as it was, and did nothing.
use Rattle.std.specs.Prelude.{ℕ, zero, suc, ◌+◌, ◌≤◌, ◌<◌, ◌≡◌, List, ◌∷◌, set}
use Rattle.nanocore.specs.declared.machine.Machine.{Machine}
use Rattle.nanocore.specs.Step.{Situation, step_of}
use Rattle.steps.specs.Trace.{after_steps}
use Rattle.stack.specs.Event.{Event, put, took, stored, event_of, puts, takes, unspent}
use Rattle.stack.specs.Stack.{InRange, Occupied, Altered, depth, stack_of}

module _ (input : List ℕ) (s : Situation) where
  -- the machine after n steps, and what step n does
  abbrev pub machine_at : ℕ → Machine
  machine_at n = (after_steps n input s).machine

  abbrev pub event_at : ℕ → Event
  event_at n = event_of (machine_at n) (step_of input (after_steps n input s))

  -- completed pushes and calls, and pops and returns, of n steps
  abbrev pub puts_by : ℕ → ℕ
  puts_by zero = 0
  puts_by (suc n) = puts_by n + puts (event_at n)

  abbrev pub takes_by : ℕ → ℕ
  takes_by zero = 0
  takes_by (suc n) = takes_by n + takes (event_at n)

  -- the bytes put and not yet taken by n steps: "starting bytes counting as put first, 0xFF earliest"
  abbrev pub unspent_by : ℕ → List ℕ
  unspent_by zero = stack_of s.machine
  unspent_by (suc n) = unspent (event_at n) (unspent_by n)

  -- no STORE or STR of n steps wrote a stack byte that was occupied before it
  abbrev pub Untouched : ℕ → Type 0
  Untouched n = (i : ℕ) → i < n → (a : ℕ) → event_at i ≡ stored a → Occupied (machine_at i) a → ⊥

-- a byte is the first of some: of those put and not yet taken, the most recent
pub record Latest (b : ℕ) (bytes : List ℕ) : Type 0 where
  pub earlier : List ℕ
  pub first : bytes ≡ b ∷ earlier

-- a byte is written at one address, in 0xEB to 0xFF, and nowhere else
pub record WrittenHigh (b : ℕ) (before after : List ℕ) : Type 0 where
  pub address : ℕ
  pub least : 0xeb ≤ address
  pub most : address ≤ 0xff
  pub only : after ≡ set before address b

pub record Demand3 (input : List ℕ) (s : Situation) : Type 0 where
  -- "After each step it is still there,"
  pub range : (n : ℕ) → InRange (machine_at input s n)
  -- "and the occupied bytes number those at the start, plus completed pushes and calls, less completed pops and returns."
  pub number : (n : ℕ) → depth (machine_at input s n) + takes_by input s n ≡ depth s.machine + puts_by input s n
  -- "Until a completed STORE or STR writes an occupied stack byte, each completed POP and RET receives the byte most recently put and not yet taken,"
  pub received : (n : ℕ) → Untouched input s n → (b : ℕ) → event_at input s n ≡ took b → Latest b (unspent_by input s n)
  -- "Pushes and calls write only 0xEB to 0xFF."
  pub written :
      (n b : ℕ) → event_at input s n ≡ put b →
      WrittenHigh b (machine_at input s n).memory (machine_at input s (suc n)).memory
  -- "A completed step alters at most one register and one memory byte."
  pub altered : (n : ℕ) → Altered (machine_at input s n) (machine_at input s (suc n))
