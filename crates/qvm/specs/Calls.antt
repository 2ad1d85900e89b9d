-- What a call of the program's top function does, for every source and sink, every cut of the bytes and every fault.
use Rattle.std.specs.Prelude.{◌≡◌, ℕ, ◌<◌, ◌≤◌, ◌⊎◌, Bool, true, List, length, take, codes, Option, IfSome}
use Rattle.std.specs.Io.KnownBytes.{Consumes, Appends, Keeps, IsAtEnd}
use Rattle.qvm_io.specs.Causes.{Rose, Stays}
use Rattle.qvm_io.specs.Transfer.{GainsFront, LosesFront}
use Rattle.qvm.specs.declared.command.RunOptions.{RunOptions}
use Rattle.qvm.specs.RunText.{Reply, IsReplyTo}

-- What a call meets and leaves of its source: the bytes left, where they are told; whether the last read gave the end of
-- the input; and the count of faults.
pub record SourceCall : Type 0 where
  pub left_before : Option (List ℕ)
  pub left_after : Option (List ℕ)
  pub at_end_after : Bool
  pub faults_before : ℕ
  pub faults_after : ℕ

-- What it meets and leaves of its sink: the bytes taken, where they are told, and the count of faults.
pub record SinkCall : Type 0 where
  pub taken_before : Option (List ℕ)
  pub taken_after : Option (List ℕ)
  pub faults_before : ℕ
  pub faults_after : ℕ

-- the most bytes that `run` reads: one more than a text may have
abbrev pub read_bound : ℕ
read_bound = 1048577

abbrev pub usage_text : List ℕ
usage_text = codes "usage: qvm run | pipe | gen | audit | serve | call\n"

-- no read failed
abbrev pub NoReadFails : SourceCall → Type 0
NoReadFails source = Stays source.faults_before source.faults_after

-- no write failed
abbrev pub NoWriteFails : SinkCall → Type 0
NoWriteFails sink = Stays sink.faults_before sink.faults_after

-- The text was read, and no read failed: it is what the call took from the source, to its end or to the bound. So where the source tells its
-- bytes, it is all that was left, or the first bytes of it up to the bound.
pub record Reads (source : SourceCall) (text : List ℕ) : Type 0 where
  pub taken : Consumes source.left_before source.left_after text
  pub bound : length text ≤ read_bound
  pub ended : length text < read_bound → source.at_end_after ≡ true
  pub empty : length text < read_bound → IsAtEnd source.left_after
  pub whole : IfSome source.left_before (λ all. text ≡ take read_bound all)
  pub steady : NoReadFails source

-- the source failed, when a front of what was left had been taken
pub record ReadFails (source : SourceCall) : Type 0 where
  pub front : LosesFront source.left_before source.left_after read_bound
  pub cause : Rose source.faults_before source.faults_after

-- memory ran out, when a front of what was left had been taken, and no read failed
pub record RunsOutOfMemory (source : SourceCall) : Type 0 where
  pub front : LosesFront source.left_before source.left_after read_bound
  pub steady : NoReadFails source

-- all of the output was written, and no write failed
abbrev pub Writes : SinkCall → List ℕ → Type 0
Writes sink output = Appends sink.taken_before sink.taken_after output × NoWriteFails sink

-- nothing was written, and no write failed
abbrev pub WritesNothing : SinkCall → Type 0
WritesNothing sink = Keeps sink.taken_before sink.taken_after × NoWriteFails sink

-- the sink failed, when a front of the output had been written
pub record WriteFails (sink : SinkCall) (output : List ℕ) : Type 0 where
  pub front : GainsFront sink.taken_before sink.taken_after output
  pub cause : Rose sink.faults_before sink.faults_after

-- the output was written, and the status is the one that goes with it; or the sink failed, and the status is 7
abbrev pub Gives : SinkCall → List ℕ → ℕ → ℕ → Type 0
Gives sink output expected status = (Writes sink output × (status ≡ expected)) ⊎ (WriteFails sink output × (status ≡ 7))

-- a text was read, and answered by its reply
pub record Replies (options : RunOptions) (source : SourceCall) (sink : SinkCall) (status : ℕ) : Type 0 where
  pub text : List ℕ
  pub reply : Reply
  pub read : Reads source text
  pub right : IsReplyTo options.limit options.seed text reply
  pub given : Gives sink reply.output reply.status status

-- How a call of `run` with those options ends: with the reply to the text that it read; or the source failed, nothing was written
-- and the status is 6; or memory ran out, nothing was written and the status is 8.
abbrev pub RunEnds : RunOptions → SourceCall → SinkCall → ℕ → Type 0
RunEnds options source sink status =
    Replies options source sink status
    ⊎ ((ReadFails source × WritesNothing sink × (status ≡ 6))
    ⊎ (RunsOutOfMemory source × WritesNothing sink × (status ≡ 8)))

-- how a call with words that are no command ends: with the usage line and the status 2, or the sink failed
abbrev pub UsageEnds : SinkCall → ℕ → Type 0
UsageEnds sink status = Gives sink usage_text 2 status
