use Rattle.elf_classify.proofs.DebugPlaceLemmas.{six_places}
use Rattle.elf_classify.proofs.places.places_in.Goals as goal

pub returns : goal.returns
returns c =
    six_places c.args.file.now c.place.result c.place-2.result c.place-3.result c.place-4.result c.place-5.result c.place-6.result
    c.place.ensures c.place-2.ensures c.place-3.ensures c.place-4.ensures c.place-5.ensures c.place-6.ensures
