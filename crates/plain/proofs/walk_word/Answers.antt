-- Files that are not refused and the fields of an accepted word can be executed.
use Rattle.std.proofs.Common.{refl, sym}
use Rattle.machine.proofs.Checks.{files_checked}
use Rattle.words.specs.Decode.{Word}
use Rattle.words.proofs.Answers.{decoding_tells}
use Rattle.words.proofs.Encoding.{decoded_in_range}
use Rattle.cores.proofs.Answers.{core_decodes}
use Rattle.plain.proofs.walk_word.Goals as goal

pub walk_fields-requires : goal.walk_fields-requires
walk_fields-requires c =
    let a = c.args in
    rw c.in-Ok.ensures.units (record {
      lent = files_checked a.k a.z.now a.p.now _ c.in-Ok.ensures.number refl;
      fields = decoded_in_range a.word _ (core_decodes a.facts a.word _ (sym (decoding_tells (Word c.in-Ok-decode.f) _ c.in-Ok-decode.ensures)));
    })
