use Rattle.ccp_messages.specs.Decoding.{decoded_of}
use Rattle.ccp_messages.proofs.DecodeLaws.{lacks-told, lacks-found}
use Rattle.ccp_messages.proofs.decoding.decode_exactly.Goals as goal

pub returns-in-Err-NoMemory-clause-told : goal.returns-in-Err-NoMemory-clause-told
returns-in-Err-NoMemory-clause-told c = lacks-told c.without_code.result (decoded_of c.args.bytes.now) c.without_code.ensures

pub returns-in-Err-NoMemory-clause-whole : goal.returns-in-Err-NoMemory-clause-whole
returns-in-Err-NoMemory-clause-whole c = lacks-found c.without_code.result (decoded_of c.args.bytes.now) c.without_code.ensures
