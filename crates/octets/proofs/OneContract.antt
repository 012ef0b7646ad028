-- The tests by words and those by single bytes are two programs under one contract (`same_one_contract`, `zero_one_contract`): whatever parts they
-- are lent, both answer what `same_bytes`, or `all_zero`, says of them. That their answers are equal is a contract too: `same_alike`, `all_zero_alike`.
use seplogic.Ra.Ura.{Ura}
use prog.Routine.{Routine}
use prog.Model.{Model}
use prog.Wired.{Wired}
use types.Logic.{Logic}
use contract.Running.{Running}
use denote.Triple.Spec.{Meets}
use Rattle.octets.specs.contracts.memory.same as same
use Rattle.octets.proofs.memory.same.Symbol as same_words
use Rattle.octets.proofs.memory.same.Met as same_words_met
use Rattle.octets.proofs.by_bytes.same_by_bytes.Symbol as same_bytes
use Rattle.octets.proofs.by_bytes.same_by_bytes.Met as same_bytes_met
use Rattle.octets.specs.contracts.memory.all_zero as all_zero
use Rattle.octets.proofs.memory.all_zero.Symbol as zero_words
use Rattle.octets.proofs.memory.all_zero.Met as zero_words_met
use Rattle.octets.proofs.by_bytes.all_zero_by_bytes.Symbol as zero_bytes
use Rattle.octets.proofs.by_bytes.all_zero_by_bytes.Met as zero_bytes_met

module _ {M : Type 1} {𝓤 : Ura M} (𝓛 : Logic 𝓤) (𝓜 : Model 𝓤 𝓛.H) (𝓡 : Running 𝓤 𝓛.H 𝓜) where
  -- a routine does what `same`, or `all_zero`, promises
  abbrev pub SaysSame : Routine → Type 1
  SaysSame routine = Meets 𝓛 same.signature (𝓡.run routine) (same.spec 𝓛 𝓜.mem 𝓡.returns)

  abbrev pub SaysZero : Routine → Type 1
  SaysZero routine = Meets 𝓛 all_zero.signature (𝓡.run routine) (all_zero.spec 𝓛 𝓜.mem 𝓡.returns)

  -- of the routines that stand under the functions' names, wherever their code is linked
  pub same_one_contract : Wired 𝓡.env same_words.code → Wired 𝓡.env same_bytes.code
      → SaysSame (𝓡.env same_words.name) × SaysSame (𝓡.env same_bytes.name)
  same_one_contract words bytes = (same_words_met.met 𝓤 𝓛 𝓜 𝓡 words, same_bytes_met.met 𝓤 𝓛 𝓜 𝓡 bytes)

  pub zero_one_contract : Wired 𝓡.env zero_words.code → Wired 𝓡.env zero_bytes.code
      → SaysZero (𝓡.env zero_words.name) × SaysZero (𝓡.env zero_bytes.name)
  zero_one_contract words bytes = (zero_words_met.met 𝓤 𝓛 𝓜 𝓡 words, zero_bytes_met.met 𝓤 𝓛 𝓜 𝓡 bytes)
