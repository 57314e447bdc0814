-- A reader and a writer at one moment.
use Rattle.std.specs.Prelude.{ℕ, Bool, List, Option, None}
use Rattle.lbk_feed.specs.Devices.{Reads}
use Rattle.lbk_feed.specs.declared.traits.Source.{Ghosts as SourceMembers}
use Rattle.lbk_feed.specs.declared.traits.Sink.{Ghosts as SinkMembers}

-- the unread bytes of a reader and the written ones of a writer, if they tell them, with their counts
pub record Devices : Type 0 where
  pub unread : Option (List ℕ)
  pub reads : Reads
  pub failed_reads : ℕ
  pub has_ended : Bool
  pub written : Option (List ℕ)
  pub failed_writes : ℕ

-- a reader and a writer, by the ghost members of their types
abbrev pub devices_of : {R W : Type 0} → SourceMembers R → SinkMembers W → R → W → Devices
devices_of source sink reader writer = record {
  unread = source.unread reader;
  reads = source.reads_made reader;
  failed_reads = source.failure_count reader;
  has_ended = source.has_ended reader;
  written = sink.written writer;
  failed_writes = sink.failure_count writer;
}

-- a reader, and a writer that tells nothing and did not fail
abbrev pub reader_alone : {R : Type 0} → SourceMembers R → R → Devices
reader_alone source reader = record {
  unread = source.unread reader;
  reads = source.reads_made reader;
  failed_reads = source.failure_count reader;
  has_ended = source.has_ended reader;
  written = None;
  failed_writes = 0;
}
