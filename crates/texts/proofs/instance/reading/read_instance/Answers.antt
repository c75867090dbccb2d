use Rattle.texts.proofs.Valid.{reads_valid}
use Rattle.texts.proofs.instance.reading.read_instance.Goals as goal

pub returns-in-Ok : goal.returns-in-Ok
returns-in-Ok c =
    let read = c.in-Ok.ensures in
    record { answer = read; valid = reads_valid c.args.text.now _ read; cleared = tt; kept = tt }
