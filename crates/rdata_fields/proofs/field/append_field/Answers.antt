use Rattle.rdata_fields.proofs.field.append_field.Goals as goal

pub returns-in-Number8 : goal.returns-in-Number8
returns-in-Number8 g c = rw c.in-Number8.is c.append_word.ensures.reads

pub returns-in-Number16 : goal.returns-in-Number16
returns-in-Number16 g c = rw c.in-Number16.is c.append_word-in-Number16.ensures.reads

pub returns-in-Number32 : goal.returns-in-Number32
returns-in-Number32 g c = rw c.in-Number32.is c.append_word-in-Number32.ensures.reads

pub returns-in-Interval : goal.returns-in-Interval
returns-in-Interval g c = rw c.in-Interval.is c.append_word-in-Interval.ensures.reads

pub returns-in-Ipv4 : goal.returns-in-Ipv4
returns-in-Ipv4 g c = rw c.in-Ipv4.is c.append_word-in-Ipv4.ensures.reads

pub returns-in-Ipv6 : goal.returns-in-Ipv6
returns-in-Ipv6 g c = rw c.in-Ipv6.is c.append_word-in-Ipv6.ensures.reads

pub returns-in-RecordType : goal.returns-in-RecordType
returns-in-RecordType g c = rw c.in-RecordType.is c.append_word-in-RecordType.ensures.reads

pub returns-in-SigType : goal.returns-in-SigType
returns-in-SigType g c = rw c.in-SigType.is c.append_word-in-SigType.ensures.reads

pub returns-in-Algorithm : goal.returns-in-Algorithm
returns-in-Algorithm g c = rw c.in-Algorithm.is c.append_word-in-Algorithm.ensures.reads

pub returns-in-CertificateType : goal.returns-in-CertificateType
returns-in-CertificateType g c = rw c.in-CertificateType.is c.append_word-in-CertificateType.ensures.reads

pub returns-in-SyncScheme : goal.returns-in-SyncScheme
returns-in-SyncScheme g c = rw c.in-SyncScheme.is c.append_word-in-SyncScheme.ensures.reads

pub returns-in-Eui48 : goal.returns-in-Eui48
returns-in-Eui48 g c = rw c.in-Eui48.is c.append_word-in-Eui48.ensures.reads

pub returns-in-Eui64 : goal.returns-in-Eui64
returns-in-Eui64 g c = rw c.in-Eui64.is c.append_word-in-Eui64.ensures.reads

pub returns-in-Time : goal.returns-in-Time
returns-in-Time g c = rw c.in-Time.is c.append_word-in-Time.ensures.reads

pub returns-in-Locator : goal.returns-in-Locator
returns-in-Locator g c = rw c.in-Locator.is c.append_word-in-Locator.ensures.reads

pub returns-in-String : goal.returns-in-String
returns-in-String g c = rw c.in-String.is c.append_string_field.ensures

pub returns-in-PsdnAddress : goal.returns-in-PsdnAddress
returns-in-PsdnAddress g c = rw c.in-PsdnAddress.is c.append_psdn_address.ensures

pub returns-in-Tag : goal.returns-in-Tag
returns-in-Tag g c = rw c.in-Tag.is c.append_tag_field.ensures

pub returns-in-Salt : goal.returns-in-Salt
returns-in-Salt g c = rw c.in-Salt.is c.append_salt_field.ensures

pub returns-in-Hash : goal.returns-in-Hash
returns-in-Hash g c = rw c.in-Hash.is c.append_hash_field.ensures

pub returns-in-Name : goal.returns-in-Name
returns-in-Name g c = rw c.in-Name.is c.append_name_field.ensures
